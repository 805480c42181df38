-- The passes of a store and of its attempts go together, and each key has the position that was claimed for it.
use Rattle.std.proofs.Common.{◌≡◌, ℕ, zero, suc, Bool, List, [], ◌∷◌, ◌++◌, length, ap, sym, ◌∙◌, refl, subst}
use Rattle.std.specs.Prelude.{Option, Result, Ok, Err}
use Rattle.cell_table.specs.Pass.{TableState, PassState, note, new_noted, opened}
use Rattle.cell_table.specs.Sorted.{Each}
use Rattle.cell_table.specs.declared.view.Noted.{Noted}
use Rattle.cell_table.specs.declared.view.NotedBook.{NotedBook}
use Rattle.cell_table.specs.declared.view.Record.{Record}
use Rattle.key_directory.specs.Directory as keys
use Rattle.key_directory.specs.declared.view.Claim.{Claim}
use Rattle.serial_terms.specs.Renaming.{NamedDone, OfKey}
use Rattle.tx_core.specs.Calls.{HoldsAt}
use Rattle.tx_core.specs.Tx.{Attempt}
use Rattle.tx_core.specs.declared.stop.Stop.{Stop}
use Rattle.store_layout.specs.Shapes.{Shape}
use Rattle.tx_store.specs.Attempts.{Tells}
use Rattle.tx_store.specs.Calls.{done_in}
use Rattle.tx_store.specs.Stores.{PassView, AreClaimed, ArePaired, IsPairedAttempt}
use Rattle.store_meaning.specs.Claims.{BooksAreClaimed}

module _ (claims : List Claim) where
  pub claimed_added : (ds es : List NamedDone) → AreClaimed claims ds → AreClaimed claims es → AreClaimed claims (ds ++ es)
  claimed_added [] es a b = b
  claimed_added (d ∷ ds) es a b = (a.0, claimed_added ds es a.1 b)

  abbrev AreClaimedIn : List (Noted NamedDone) → Type 0
  AreClaimedIn es = Each (λ e. AreClaimed claims e.content.dones) es

  entry_added : (es : List (Noted NamedDone)) (e : Noted NamedDone) → AreClaimedIn es → AreClaimed claims e.content.dones → AreClaimedIn (es ++ e ∷ [])
  entry_added [] e a b = (b, tt)
  entry_added (x ∷ es) e a b = (a.0, entry_added es e a.1 b)

  book_noted : (place : ℕ) (writer : Bool) (r : Record NamedDone) (bs : List (NotedBook NamedDone)) → Each (λ b. AreClaimedIn b.entries) bs → AreClaimed claims r.dones
      → Each (λ b. AreClaimedIn b.entries) (note place writer r bs)
  book_noted place writer r [] a c = tt
  book_noted place writer r (b ∷ bs) a c = (entry_added b.entries (record { place = place; writer = writer; content = r }) a.0 c, a.1)

  as_many : (place : ℕ) (writer : Bool) (r : Record NamedDone) (bs : List (NotedBook NamedDone)) → length (note place writer r bs) ≡ length bs
  as_many place writer r [] = refl
  as_many place writer r (b ∷ bs) = refl

  -- the calls that were answered, of which none has a key that isn't claimed
  pub claimed_done : {A E : Type 0} (done : A → NamedDone) (result : Result A E) → ((x : A) → OfKey (λ m k. keys.Claimed claims m k (done x).name) (done x).done.call) → AreClaimed claims (done_in done result)
  claimed_done done (Ok x) c = (c x, tt)
  claimed_done done (Err e) c = tt

module _ {M : Type 0} (k : keys.PassView) where
  -- a pass with the same books goes with the same pass of the directory
  pub paired_same : (p q : PassState M NamedDone) → q.books ≡ p.books → q.room ≡ p.room → ArePaired p k → ArePaired q k
  paired_same p q books room pair = record {
    callers = pair.callers ∙ ap length (sym books);
    room = pair.room ∙ sym room;
    claimed = subst (λ (bs : List (NotedBook NamedDone)). BooksAreClaimed k.claims bs) (sym books) pair.claimed;
  }

  -- and so does one with one more record, of calls whose keys are claimed
  pub paired_noted : (place : ℕ) (writer : Bool) (r : Record NamedDone) (p q : PassState M NamedDone) → q.books ≡ note place writer r p.books → q.room ≡ p.room → AreClaimed k.claims r.dones
      → ArePaired p k → ArePaired q k
  paired_noted place writer r p q books room claimed pair = record {
    callers = pair.callers ∙ (sym (as_many k.claims place writer r p.books) ∙ ap length (sym books));
    room = pair.room ∙ sym room;
    claimed = subst (λ (bs : List (NotedBook NamedDone)). BooksAreClaimed k.claims bs) (sym books)
        (book_noted k.claims place writer r p.books pair.claimed claimed);
  }

  -- an attempt that made a call
  pub paired_made : (P : ℕ → Type 0) (n : ℕ) (old new : Attempt M NamedDone) (dones : List NamedDone) (stop : Option Stop) → HoldsAt P n old new stop → new.notes ≡ old.notes ++ dones
      → AreClaimed k.claims dones → IsPairedAttempt old k → IsPairedAttempt new k
  paired_made P n old new dones stop holds notes claimed pair = record {
    pass = paired_same old.pass new.pass (ap (λ (p : PassState M NamedDone). p.books) holds.does.pass.is) (ap (λ (p : PassState M NamedDone). p.room) holds.does.pass.is) pair.pass;
    notes = subst (AreClaimed k.claims) (sym notes) (claimed_added k.claims old.notes dones pair.notes claimed);
  }

  -- an attempt that begins
  pub paired_begun : (p : PassState M NamedDone) (a : Attempt M NamedDone) → a.pass.books ≡ p.books → a.pass.room ≡ p.room → a.notes ≡ [] → ArePaired p k → IsPairedAttempt a k
  paired_begun p a books room notes pair = record { pass = paired_same p a.pass books room pair; notes = subst (AreClaimed k.claims) (sym notes) tt }

  -- an attempt that made a call without a key
  pub paired_call : {A E : Type 0} (P : ℕ → Type 0) (n : ℕ) (old new : Attempt M NamedDone) (done : A → NamedDone) (result : Result A E) (stop : Option Stop) → HoldsAt P n old new stop
      → new.notes ≡ old.notes ++ done_in done result → ((x : A) → OfKey (λ m key. keys.Claimed k.claims m key (done x).name) (done x).done.call) → IsPairedAttempt old k → IsPairedAttempt new k
  paired_call P n old new done result stop holds notes claimed pair = paired_made P n old new (done_in done result) stop holds notes (claimed_done k.claims done result claimed) pair

-- ---- the passes of an opening

fresh_count : (from n : ℕ) → length (new_noted {D = NamedDone} from n) ≡ n
fresh_count from zero = refl
fresh_count from (suc n) = ap (λ (z : ℕ). suc z) (fresh_count (suc from) n)

fresh_claimed : (claims : List Claim) (from n : ℕ) → BooksAreClaimed claims (new_noted from n)
fresh_claimed claims from zero = tt
fresh_claimed claims from (suc n) = (tt, fresh_claimed claims (suc from) n)

pub opened_pair : {M : Type 0} (table : TableState M) (p : PassState M NamedDone) (k : keys.PassView) → p ≡ opened table → k.callers ≡ table.callers → k.room ≡ table.callers → ArePaired p k
opened_pair table p k is callers room =
    let books = ap (λ (q : PassState _ NamedDone). q.books) is in
    record {
      callers = callers ∙ sym (ap length books ∙ fresh_count 0 table.callers);
      room = room ∙ sym (ap (λ (q : PassState _ NamedDone). q.room) is);
      claimed = subst (BooksAreClaimed k.claims) (sym books) (fresh_claimed k.claims 0 table.callers);
    }

-- an attempt that begins with a pass as contracts see it
pub paired_seen : {M : Type 0} (in_pass p : PassView M) → in_pass ≡ p → (a : Attempt M NamedDone) → a.pass.books ≡ in_pass.pass.books → a.pass.room ≡ in_pass.pass.room → a.notes ≡ []
    → ArePaired p.pass p.keys → IsPairedAttempt a in_pass.keys
paired_seen in_pass p is a books room notes pair = paired_begun in_pass.keys in_pass.pass a books room notes (subst (λ (z : PassView _). ArePaired z.pass z.keys) (sym is) pair)

-- ---- what the notes tell, by a plan that is the store's

pub told : {M : Type 0} (passes : ℕ → ℕ → Type 0) (s t : Shape) → s ≡ t → (old new : Attempt M NamedDone) → (Tells passes s old → Tells passes s new) → Tells passes t old → Tells passes t new
told passes s t same old new tells before = subst (λ (z : Shape). Tells passes z new) same (tells (subst (λ (z : Shape). Tells passes z old) (sym same) before))
