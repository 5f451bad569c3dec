-- What is said of an address depends on little of those that speak.
use Rattle.std.proofs.Common.{◌≡◌, ℕ, List, Option, None, Some, refl, sym, ap, ◌∙◌}
use Rattle.std.specs.Option.{option_map}
use Rattle.geo_addr.specs.Ranges.{Ends}
use Rattle.geo_terms.specs.DelegationForm.{DelegationParts}
use Rattle.geo_terms.specs.First.{first_of}
use Rattle.geo_terms.specs.PlaceForm.{PlaceParts}
use Rattle.geo_terms.specs.Precedence.{chosen, entries_within, entry_before, entry_of}
use Rattle.geo_terms.specs.Precedence.{first_delegation, first_override, said_place, speaker}
use Rattle.geo_terms.specs.Precedence.{speaking_entry, spoken_at}
use Rattle.geo_terms.specs.Sources.{InForce, entries_in, feed_of}
use Rattle.geo_terms.specs.declared.place.Said.{Said}
use Rattle.geo_terms.specs.declared.statement.Entry.{Entry}
use Rattle.geo_terms.specs.declared.statement.Override.{Override}
use Rattle.geo_terms.specs.declared.statement.Reference.{Reference}

-- of a speaker its URL and its range
abbrev pub pointed : Reference → List ℕ × Ends
pointed r = (r.url, r.range)

abbrev told : Option Said → Option Said → Option PlaceParts → Option PlaceParts
told (Some o) e d = said_place o
told None (Some e) d = said_place e
told None None d = d

chosen_told : (o : Option Override) (e : Option Entry) (d : Option DelegationParts) → chosen o e d
    ≡ told (option_map (λ x. x.said) o) (option_map (λ x. x.said) e) (option_map (λ x. x.place) d)
chosen_told (Some o) e d = refl
chosen_told None (Some e) d = refl
chosen_told None None (Some d) = refl
chosen_told None None None = refl

-- what the entry says that lies in a range of a feed
abbrev pub said_within : InForce → List ℕ → Ends → ℕ → Option Said
said_within s url range a =
    option_map (λ e. e.said)
    (first_of entry_before (entries_within (entries_in (feed_of s url)) range a))

abbrev said_for : InForce → Option (List ℕ × Ends) → ℕ → Option Said
said_for s None a = None
said_for s (Some v) a = said_within s v.0 v.1 a

entry_told : (s : InForce) (o : Option Reference) (a : ℕ)
    → option_map (λ e. e.said) (entry_of s o a) ≡ said_for s (option_map pointed o) a
entry_told s None a = refl
entry_told s (Some r) a = refl

-- two lots of sources of which the same counts at an address
pub record LookAlike (s t : InForce) (a : ℕ) : Type 0 where
  pub speakers : option_map pointed (speaker s a) ≡ option_map pointed (speaker t a)
  pub entries : (url : List ℕ) (range : Ends)
      → said_within s url range a ≡ said_within t url range a
  pub delegations : option_map (λ d. d.place) (first_delegation s a)
      ≡ option_map (λ d. d.place) (first_delegation t a)
  pub overrides : option_map (λ o. o.said) (first_override s a)
      ≡ option_map (λ o. o.said) (first_override t a)

alike_for : (s t : InForce) (a : ℕ)
    → ((url : List ℕ) (range : Ends) → said_within s url range a ≡ said_within t url range a)
    → (v : Option (List ℕ × Ends)) → said_for s v a ≡ said_for t v a
alike_for s t a h None = refl
alike_for s t a h (Some v) = h v.0 v.1

pub spoken_alike : (s t : InForce) (a : ℕ) → LookAlike s t a → spoken_at s a ≡ spoken_at t a
unfolding spoken_at speaking_entry
spoken_alike s t a h =
    let entry : option_map (λ (e : Entry). e.said) (entry_of s (speaker s a) a)
    ≡ option_map (λ (e : Entry). e.said) (entry_of t (speaker t a) a) =
    entry_told s (speaker s a) a ∙ ap (λ v. said_for s v a) h.speakers
    ∙ alike_for s t a h.entries (option_map pointed (speaker t a))
    ∙ sym (entry_told t (speaker t a) a) in
    chosen_told (first_override s a) (entry_of s (speaker s a) a) (first_delegation s a)
    ∙ (λ i. told (h.overrides i) (entry i) (h.delegations i))
    ∙ sym (chosen_told (first_override t a) (entry_of t (speaker t a) a) (first_delegation t a))
