-- Attempts one after another.
use Rattle.std.proofs.Common.{ℕ, ◌+◌, ◌≤◌, sym, ◌∙◌, arith}
use Rattle.cell_table.specs.Pass.{IsSole}
use Rattle.serial_terms.specs.declared.call.Done.{Done}
use Rattle.serial_terms.specs.Renaming.{NamedDone}
use Rattle.std.specs.Prelude.{List}
use Rattle.serial_terms.specs.Sights.{Seen}
use Rattle.tx_core.specs.declared.stop.Stop.TheVariants.{Held, Newer, Memory}
use Rattle.tx_core.specs.Facts.{grows_trans}
use Rattle.tx_store.specs.declared.commit.CommitEnd.{CommitEnd}
use Rattle.tx_store.specs.declared.commit.CommitEnd.TheVariants as commits
use Rattle.tx_store.specs.declared.run.BodyStop.{BodyStop}
use Rattle.tx_store.specs.declared.run.BodyStop.TheVariants as stops
use Rattle.tx_store.specs.declared.run.RunEnd.{RunEnd}
use Rattle.tx_store.specs.declared.run.RunEnd.TheVariants as run_ends
use Rattle.tx_store.specs.ChildLaws.{keys_then}
use Rattle.tx_nest.specs.AttemptLaws.{grew_trans}
use Rattle.tx_store.specs.Runs.{IsLeft, AfterFewer, IsAnswered, IsLastEnd, IsRefusedRun, IsCommittedRun, IfStopKeysFull, IfTryKeysFull, IfEndKeysFull, after_stop, after_refusal}
use Rattle.tx_store.specs.Stores.{StoreView, PassView}

module _ {M : Type 0} where
  pub left_then : (store : StoreView M) (n m k : ℕ) (p q r : PassView M) → n + m ≤ k → IsLeft store n p q → IsLeft store m q r → IsLeft store k p r
  left_then store n m k p q r low a b =
      let c = a.draws in let d = b.draws in
      let e = a.seen in let f = b.seen in
      record {
        of = b.of;
        idle = b.idle;
        callers = b.callers ∙ a.callers;
        room = b.room ∙ a.room;
        draws = omega arith;
        seen = omega arith;
        trail = grew_trans _ _ _ a.trail b.trail;
        grows = grows_trans _ _ _ a.grows b.grows;
        keys = keys_then p.keys q.keys r.keys a.keys b.keys;
      }

  pub alone_left : (store : StoreView M) (n : ℕ) (p q : PassView M) → IsLeft store n p q → IsSole p.pass → IsSole q.pass
  alone_left store n p q left alone = left.callers ∙ (alone ∙ sym left.grows.total)

  pub ran_by : {O : Type 0} (allows : List Done → Type 0) (runs earlier : List Done → O → Type 0) (p q : PassView M) (out : O) → ((calls : List Done) → runs calls out → earlier calls out)
      → IsCommittedRun allows runs p q out → IsCommittedRun allows earlier p q out
  ran_by allows runs earlier p q out same is = record { writer = is.writer; content = is.content; books = is.books; allowed = is.allowed; ran = same _ is.ran }

  -- what one body's calls may be, those of an earlier one may be
  pub last_by : {O : Type 0} (Saw : PassView M → Seen NamedDone → Type 0) (parts : ℕ) (allows : List Done → Type 0) (runs earlier : List Done → O → Type 0) (p q : PassView M) (end : RunEnd)
      → ((calls : List Done) (out : O) → runs calls out → earlier calls out) → IsLastEnd Saw parts (IsAnswered allows runs) p q end → IsLastEnd Saw parts (IsAnswered allows earlier) p q end
  last_by Saw parts allows runs earlier p q (run_ends.Spent n last) same is = is
  last_by Saw parts allows runs earlier p q (run_ends.Full part values adding) same is = record {
    there = is.there;
    seen = is.seen;
    end = is.end;
    calls = record { allowed = is.calls.allowed; placed = is.calls.placed; answer = is.calls.answer; ran = same _ is.calls.answer is.calls.ran };
    saw = is.saw;
  }
  last_by Saw parts allows runs earlier p q (run_ends.KeysFull map capacity) same is = is
  last_by Saw parts allows runs earlier p q run_ends.Memory same is = is

  pub refused_as : (Saw : PassView M → Seen NamedDone → Type 0) (parts : ℕ) (answered : List NamedDone → Type 0) (tries : ℕ) (p q : PassView M) (end : RunEnd) → AfterFewer Saw tries p (λ r. IsLastEnd Saw parts answered r q end)
      → IsRefusedRun Saw parts answered tries p q end
  refused_as Saw parts answered tries p q (run_ends.Spent n last) is = absurd is.ends
  refused_as Saw parts answered tries p q (run_ends.Full part values adding) is = is
  refused_as Saw parts answered tries p q (run_ends.KeysFull map capacity) is = is
  refused_as Saw parts answered tries p q run_ends.Memory is = is

-- ---- ends for want of room for a key

module _ (full : ℕ → ℕ → Type 0) where
  pub stopped_full : (stop : BodyStop) → IfStopKeysFull full stop → IfTryKeysFull full (after_stop stop)
  stopped_full (stops.Stop (Held cell owner)) is = tt
  stopped_full (stops.Stop (Newer cell found)) is = tt
  stopped_full (stops.Stop Memory) is = tt
  stopped_full (stops.KeysFull map capacity) is = is

  -- a commit doesn't end so
  pub refused_full : (end : CommitEnd) → IfTryKeysFull full (after_refusal end)
  refused_full (commits.Held cell owner) = tt
  refused_full (commits.Newer cell found) = tt
  refused_full (commits.Full part values adding) = tt

  -- a map for which one body may stop, an earlier one may stop for
  pub full_by : (earlier : ℕ → ℕ → Type 0) (end : RunEnd) → ((map capacity : ℕ) → full map capacity → earlier map capacity) → IfEndKeysFull full end → IfEndKeysFull earlier end
  full_by earlier (run_ends.Spent n last) same is = tt
  full_by earlier (run_ends.Full part values adding) same is = tt
  full_by earlier (run_ends.KeysFull map capacity) same is = same map capacity is
  full_by earlier run_ends.Memory same is = tt
