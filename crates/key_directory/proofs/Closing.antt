-- What the words say when a directory is closed.
use Rattle.std.proofs.Common.{◌≡◌, ℕ, zero, suc, ◌+◌, ◌-◌, ◌≤◌, List, [], ◌∷◌, get_or, Option, Some, None, refl, ap, arith, All, SomeIff}
use mathlib.Core.Option.{some}
use lib.ListN.{get_elem?}
use Rattle.std.proofs.lemmas.List.Elements.{All-contains}
use Rattle.key_directory.specs.declared.view.Claim.{Claim}
use Rattle.key_directory.specs.Words.{word_number}
use Rattle.key_directory.specs.Rule.{IsKept, Stands}
use Rattle.key_directory.specs.Directory.{KeyListView, key_in, key_held, claim_of, Claimed, HoldsEachOnce}
use Rattle.key_directory.proofs.Keeping.{one_position}

key_in-next : (n k : ℕ) → n ≡ k + 1 → key_in n ≡ Some k
key_in-next zero k e = absurd (omega arith)
key_in-next (suc n) k e = let f : n ≡ k = omega arith in ap Some f

pub word_of : (n k : ℕ) → key_in n ≡ Some k → n ≡ k + 1
word_of zero k e = absurd (cc)
word_of (suc n) k e = let f : n ≡ k = cc in omega arith

pub at_get : (ws : List ℕ) (i w : ℕ) → get_elem? ws i ≡ some w → w ≡ get_or ws i 0
at_get [] i w e = absurd (cc)
at_get (x ∷ xs) zero w e = cc
at_get (x ∷ xs) (suc i) w e = at_get xs i w e

-- a word without 1 is its key
pub key_of : (n : ℕ) (r : Option ℕ) → SomeIff r (1 ≤ n) (n - 1) → r ≡ key_in n
key_of zero None s = refl
key_of zero (Some k) s = let l = s.0 in absurd (omega arith)
key_of (suc n) None s = absurd (s (omega arith))
key_of (suc n) (Some k) s = let e = s.1 in let f : k ≡ n = omega arith in ap Some f

module _ (passes : ℕ → ℕ → Type 0) (cs ws : List ℕ) where
  abbrev pub list : KeyListView
  list = record { capacities = cs; words = ws }

  pub each_once : IsKept passes cs ws → HoldsEachOnce passes list
  each_once kept = record {
    allowed = λ r k p there e. (kept.placed r p k there (word_of (get_or ws (word_number cs r p) 0) k e)).allowed;
    once = λ r k p q there there' e f. one_position passes cs ws kept r k p q there there' (word_of (get_or ws (word_number cs r p) 0) k e) (word_of (get_or ws (word_number cs r q) 0) k f);
    own = λ r k p there only e. (kept.placed r p k there (word_of (get_or ws (word_number cs r p) 0) k e)).own only;
  }

  pub held : (claims : List Claim) → All (Stands cs ws) claims → (r k p : ℕ) → Claimed claims r k p → key_held list r p ≡ Some k
  held claims all r k p c = key_in-next (get_or ws (word_number cs r p) 0) k (All-contains (Stands cs ws) claims (claim_of r k p) all c).1
