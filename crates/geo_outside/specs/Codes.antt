-- How the values of a fake folder are told apart: each record as the tuple of its fields.
use Rattle.std.specs.Prelude.{ℕ, List, refl}
use Rattle.std.specs.Coded.{Coded, code_by, coded×, coded_list, coded_ℕ}
use Rattle.std.specs.FinMap as map
use Rattle.geo_outside.specs.Files.{Files, Told}
use Rattle.geo_outside.specs.Script.{Script, FakeFolder}

abbrev pub bytes_code : Coded (List ℕ)
bytes_code = coded_list coded_ℕ

abbrev pub told_code : Coded Told
told_code =
    code_by (Files × List (List ℕ × List ℕ))
    (coded× (map.code bytes_code bytes_code) (coded_list (coded× bytes_code bytes_code)))
    (λ t. (t.held, t.puts)) (λ p. record { held = p.0; puts = p.1 }) (λ _. refl)

abbrev pub script_code : Coded Script
script_code =
    code_by (List ℕ × ℕ) (coded× bytes_code coded_ℕ) (λ s. (s.listed, s.made))
    (λ p. record { listed = p.0; made = p.1 }) (λ _. refl)

abbrev pub fake_folder_code : Coded FakeFolder
fake_folder_code =
    code_by (Told × (Script × (Script × (ℕ × (ℕ × ℕ))))) (coded× told_code
    (coded× script_code (coded× script_code (coded× coded_ℕ (coded× coded_ℕ coded_ℕ)))))
    (λ f. (f.told, (f.read_calls, (f.put_calls, (f.misses, (f.given, f.most)))))) (λ p. record {
      told = p.0;
      read_calls = p.1.0;
      put_calls = p.1.1.0;
      misses = p.1.1.1.0;
      given = p.1.1.1.1.0;
      most = p.1.1.1.1.1;
    }) (λ _. refl)
