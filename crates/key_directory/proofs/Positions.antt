-- The position that claims have for a key is one that they claimed, and the only one.
use Rattle.std.proofs.Common.{◌≡◌, ℕ, zero, suc, ◌<◌, ◌↔◌, List, [], ◌∷◌, length, get_or, ◌∙◌, ap, arith, Some}
use Rattle.std.proofs.lemmas.Bool.Decides.{nat_tests}
use mathlib.Core.Logic.{dite}
use native.Mathlib.Decide.{ℕ_discrete}
use Rattle.key_directory.specs.declared.view.Claim.{Claim}
use Rattle.key_directory.specs.declared.view.View.{View}
use Rattle.key_directory.specs.Moves.{Knows}
use Rattle.key_directory.specs.Directory.{claim_of, Claimed, position_in}
use Rattle.key_directory.proofs.Claims.{one_to_one}

at_head : (c : Claim) (cs : List Claim) (r k p : ℕ) → c.region ≡ r → c.key ≡ k → c.position ≡ p → Claimed (c ∷ cs) r k p
at_head c cs r k p e f g = (0, omega arith, λ i. record { region = e i; key = f i; position = g i })

in_tail : (c : Claim) (cs : List Claim) (r k p : ℕ) → Claimed cs r k p → Claimed (c ∷ cs) r k p
in_tail c cs r k p t = let l = t.1 in (suc t.0, omega arith, t.2)

claimed_there : (cs : List Claim) (r k p : ℕ) → position_in cs r k ≡ Some p → Claimed cs r k p
claimed_there [] r k p e = absurd (cc)
claimed_there (c ∷ cs) r k p e = dite (ℕ_discrete c.region r)
    (λ er. dite (ℕ_discrete c.key k)
    (λ ek. let f : c.position ≡ p = grind (arith, nat_tests, e) in at_head c cs r k p er ek f)
    (λ ne. let f : position_in cs r k ≡ Some p = grind (arith, nat_tests, e) in in_tail c cs r k p (claimed_there cs r k p f)))
    (λ ne. let f : position_in cs r k ≡ Some p = grind (arith, nat_tests, e) in in_tail c cs r k p (claimed_there cs r k p f))

has_position : (cs : List Claim) (r k p i : ℕ) → i < length cs → get_or cs i (claim_of r k p) ≡ claim_of r k p → (q : ℕ) × (position_in cs r k ≡ Some q)
has_position [] r k p i l e = absurd (omega arith)
has_position (c ∷ cs) r k p zero l e =
    let er : c.region ≡ r = ap (λ (d : Claim). d.region) e in let ek : c.key ≡ k = ap (λ (d : Claim). d.key) e in
    (c.position, grind (arith, nat_tests))
has_position (c ∷ cs) r k p (suc i) l e = dite (ℕ_discrete c.region r)
    (λ er. dite (ℕ_discrete c.key k)
    (λ ek. (c.position, grind (arith, nat_tests)))
    (λ ne. let f = has_position cs r k p i (omega arith) e in let g = f.1 in (f.0, grind (arith, nat_tests))))
    (λ ne. let f = has_position cs r k p i (omega arith) e in let g = f.1 in (f.0, grind (arith, nat_tests)))

pub positions : (passes : ℕ → ℕ → Type 0) (v : View) → Knows passes v → (r k p : ℕ) → Claimed v.claims r k p ↔ (position_in v.claims r k ≡ Some p)
positions passes v kn r k p = (to, claimed_there v.claims r k p) where
  to : Claimed v.claims r k p → position_in v.claims r k ≡ Some p
  to t = let f = has_position v.claims r k p t.0 t.1 t.2 in
      f.1 ∙ ap (λ (n : ℕ). Some n) ((one_to_one passes v kn).same r k f.0 p (claimed_there v.claims r k f.0 f.1) t)
