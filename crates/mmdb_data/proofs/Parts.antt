-- A value by its type.
use Rattle.std.proofs.Common.{◌≡◌, ℕ, ◌+◌, Bool, false, List, Result, Ok, refl, arith}
use Rattle.std.proofs.lemmas.Bool.{eq-eqb, ne_eqb}
use Rattle.mmdb_data.specs.declared.fault.DataFault.{DataFault}
use Rattle.mmdb_data.specs.declared.fault.DataFault.TheVariants as faults
use Rattle.mmdb_data.specs.ValueTree.{list, text, bytes, bool}
use Rattle.mmdb_data.specs.Reading.{◌>>=◌, Fault, Fails, Budget, text_from}
use Rattle.mmdb_data.specs.Reading.{byte_string_from, bool_from, leaf_from, content_from}
use Rattle.mmdb_data.specs.Reading.{Read, items_from}

pub step_fails : {A B : Type 0} (fault : DataFault) (r : Result A Fault) (f : A → Result B Fault)
    → Fails fault r → Fails fault (r >>= f)
step_fails faults.Memory r f h = tt
step_fails (faults.Bad at cause) r f h = rw h refl

pub leaf_text : (section : List ℕ) (is_key : Bool) (at kind size offset : ℕ) (left : Budget)
    → kind ≡ 2 → leaf_from section is_key at kind size offset left
    ≡ (text_from section at size offset left >>= λ found. Ok
    (text found.0, offset + size, found.1))
unfolding leaf_from
leaf_text section is_key at kind size offset left is = rw (eq-eqb kind 2 is) refl

pub leaf_bytes : (section : List ℕ) (is_key : Bool) (at kind size offset : ℕ) (left : Budget)
    → kind ≡ 4 → leaf_from section is_key at kind size offset left
    ≡ (byte_string_from section is_key at size offset left >>= λ found. Ok
    (bytes found.0, offset + size, found.1))
unfolding leaf_from
leaf_bytes section is_key at kind size offset left is =
    rw (ne_eqb kind 2 (λ e. omega arith), eq-eqb kind 4 is) refl

pub leaf_bool : (section : List ℕ) (is_key : Bool) (at kind size offset : ℕ) (left : Budget)
    → kind ≡ 14 → leaf_from section is_key at kind size offset left
    ≡ (bool_from is_key at size >>= λ b. Ok (bool b, offset, left))
unfolding leaf_from
leaf_bool section is_key at kind size offset left is =
    rw (ne_eqb kind 2 (λ e. omega arith), ne_eqb kind 4 (λ e. omega arith), eq-eqb kind 14 is) refl

pub content_list : (read : Read) (section : List ℕ) (is_key : Bool) (at kind size offset : ℕ)
    (left : Budget) → kind ≡ 11 → is_key ≡ false
    → content_from read section is_key at kind size offset left
    ≡ (items_from read size offset left >>= λ found. Ok (list found.0, found.1, found.2))
unfolding content_from
content_list read section is_key at kind size offset left is value =
    rw (value, ne_eqb kind 7 (λ e. omega arith), eq-eqb kind 11 is) refl
