-- A size and where a pointer leads, by the number in their further bytes.
use Rattle.std.proofs.Common.{◌≡◌, ℕ, zero, suc, ◌+◌, ◌*◌, ◌/◌, ◌%◌, ◌^◌, ◌<◌, ◌≤◌, List, Ok}
use Rattle.std.proofs.Common.{refl, sym, arith}
use Rattle.std.proofs.lemmas.Bool.{eq-eqb, ne_eqb, le-ltb}
use Rattle.mmdb_data.specs.declared.fault.DataCause.TheVariants.{Truncated}
use Rattle.mmdb_data.specs.declared.fault.DataFault.{DataFault}
use Rattle.mmdb_data.specs.declared.fault.DataFault.TheVariants as faults
use Rattle.mmdb_data.specs.Reading.{Fails, number_from, size_from, pointer_from}

pub pointer_fails : (section : List ℕ) (at control code : ℕ) (fault : DataFault)
    → code ≡ control % 32 / 8
    → Fails fault (number_from section (at + 1) (code + 1) (at, Truncated))
    → Fails fault (pointer_from section at control)
unfolding pointer_from
pointer_fails section at control code faults.Memory is h = tt
pointer_fails section at control zero (faults.Bad a cause) is h =
    rw (eq-eqb (control % 32 / 8) 0 (sym is), h) refl
pointer_fails section at control (suc zero) (faults.Bad a cause) is h =
    let first = ne_eqb (control % 32 / 8) 0 (λ e. omega arith) in
    rw (first, eq-eqb (control % 32 / 8) 1 (sym is), h) refl
pointer_fails section at control (suc (suc zero)) (faults.Bad a cause) is h =
    let first = ne_eqb (control % 32 / 8) 0 (λ e. omega arith) in
    let second = ne_eqb (control % 32 / 8) 1 (λ e. omega arith) in
    rw (first, second, eq-eqb (control % 32 / 8) 2 (sym is), h) refl
pointer_fails section at control (suc (suc (suc zero))) (faults.Bad a cause) is h =
    let first = ne_eqb (control % 32 / 8) 0 (λ e. omega arith) in
    let second = ne_eqb (control % 32 / 8) 1 (λ e. omega arith) in
    let third = ne_eqb (control % 32 / 8) 2 (λ e. omega arith) in
    rw (first, second, third, h) refl
pointer_fails section at control (suc (suc (suc (suc k)))) (faults.Bad a cause) is h =
    absurd (omega arith)

pub pointer_leads : (section : List ℕ) (at control code low target after : ℕ)
    → code ≡ control % 32 / 8 → after ≡ at + code + 2
    → number_from section (at + 1) (code + 1) (at, Truncated) ≡ Ok low
    → (code ≡ 0 → target ≡ control % 8 * 2 ^ 8 + low)
    → (code ≡ 1 → target ≡ control % 8 * 2 ^ 16 + low + 2048)
    → (code ≡ 2 → target ≡ control % 8 * 2 ^ 24 + low + 526336)
    → (2 < code → target ≡ low) → pointer_from section at control ≡ Ok (target, after)
unfolding pointer_from
pointer_leads section at control zero low target after is after_is h one two three four =
    let leads = one refl in
    let ends : after ≡ at + 2 = omega arith in
    rw (eq-eqb (control % 32 / 8) 0 (sym is), h, leads, ends) refl
pointer_leads section at control (suc zero) low target after is after_is h one two three four =
    let first = ne_eqb (control % 32 / 8) 0 (λ e. omega arith) in
    let leads = two refl in
    let ends : after ≡ at + 3 = omega arith in
    rw (first, eq-eqb (control % 32 / 8) 1 (sym is), h, leads, ends) refl
pointer_leads section at control (suc (suc zero)) low target after is after_is h one two three
    four =
    let first = ne_eqb (control % 32 / 8) 0 (λ e. omega arith) in
    let second = ne_eqb (control % 32 / 8) 1 (λ e. omega arith) in
    let leads = three refl in
    let ends : after ≡ at + 4 = omega arith in
    rw (first, second, eq-eqb (control % 32 / 8) 2 (sym is), h, leads, ends) refl
pointer_leads section at control (suc (suc (suc zero))) low target after is after_is h one two
    three four =
    let first = ne_eqb (control % 32 / 8) 0 (λ e. omega arith) in
    let second = ne_eqb (control % 32 / 8) 1 (λ e. omega arith) in
    let third = ne_eqb (control % 32 / 8) 2 (λ e. omega arith) in
    let leads = four (omega arith) in
    let ends : after ≡ at + 5 = omega arith in
    rw (first, second, third, h, leads, ends) refl
pointer_leads section at control (suc (suc (suc (suc k)))) low target after is after_is h one two
    three four =
    absurd (omega arith)

pub size_fails : (section : List ℕ) (at code offset len : ℕ) (fault : DataFault)
    → code ≡ len + 28 → 28 < code → code < 32
    → Fails fault (number_from section offset len (at, Truncated))
    → Fails fault (size_from section at code offset)
unfolding size_from
size_fails section at code offset len faults.Memory is low high h = tt
size_fails section at code offset zero (faults.Bad a cause) is low high h = absurd (omega arith)
size_fails section at code offset (suc zero) (faults.Bad a cause) is low high h =
    rw (le-ltb code 29 (omega arith), eq-eqb code 29 (omega arith), h) refl
size_fails section at code offset (suc (suc zero)) (faults.Bad a cause) is low high h =
    let first = ne_eqb code 29 (λ e. omega arith) in
    rw (le-ltb code 29 (omega arith), first, eq-eqb code 30 (omega arith), h) refl
size_fails section at code offset (suc (suc (suc zero))) (faults.Bad a cause) is low high h =
    let first = ne_eqb code 29 (λ e. omega arith) in
    let second = ne_eqb code 30 (λ e. omega arith) in
    rw (le-ltb code 29 (omega arith), first, second, h) refl
size_fails section at code offset (suc (suc (suc (suc k)))) (faults.Bad a cause) is low high h =
    absurd (omega arith)

pub size_is : (section : List ℕ) (at code offset len more least after : ℕ)
    → code ≡ len + 28 → 28 < code → code < 32 → after ≡ offset + len
    → number_from section offset len (at, Truncated) ≡ Ok more
    → (len ≡ 1 → least ≡ 29) → (len ≡ 2 → least ≡ 285) → (2 < len → least ≡ 65821)
    → size_from section at code offset ≡ Ok (least + more, after)
unfolding size_from
size_is section at code offset zero more least after is low high after_is h one two three =
    absurd (omega arith)
size_is section at code offset (suc zero) more least after is low high after_is h one two three =
    let leads = one refl in
    let ends : after ≡ offset + 1 = omega arith in
    rw (le-ltb code 29 (omega arith), eq-eqb code 29 (omega arith), h, leads, ends) refl
size_is section at code offset (suc (suc zero)) more least after is low high after_is h one two
    three =
    let first = ne_eqb code 29 (λ e. omega arith) in
    let leads = two refl in
    let ends : after ≡ offset + 2 = omega arith in
    rw (le-ltb code 29 (omega arith), first, eq-eqb code 30 (omega arith), h, leads, ends) refl
size_is section at code offset (suc (suc (suc zero))) more least after is low high after_is h one
    two three =
    let first = ne_eqb code 29 (λ e. omega arith) in
    let second = ne_eqb code 30 (λ e. omega arith) in
    let leads = three (omega arith) in
    let ends : after ≡ offset + 3 = omega arith in
    rw (le-ltb code 29 (omega arith), first, second, h, leads, ends) refl
size_is section at code offset (suc (suc (suc (suc k)))) more least after is low high after_is h
    one two three =
    absurd (omega arith)

pub size_narrow : (len more least : ℕ) → 0 < len → len ≤ 3 → more < 256 ^ len
    → (len ≡ 1 → least ≡ 29) → (len ≡ 2 → least ≡ 285) → (2 < len → least ≡ 65821)
    → least + more ≤ 16843036
size_narrow zero more least some few h one two three = absurd (omega arith)
size_narrow (suc zero) more least some few h one two three =
    let leads = one refl in
    omega arith
size_narrow (suc (suc zero)) more least some few h one two three =
    let leads = two refl in
    omega arith
size_narrow (suc (suc (suc zero))) more least some few h one two three =
    let leads = three (omega arith) in
    omega arith
size_narrow (suc (suc (suc (suc k)))) more least some few h one two three = absurd (omega arith)
