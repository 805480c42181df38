use Rattle.std.proofs.Common.{◌≡◌, ◌∙◌, ℕ, ◌<◌, ◌≤◌, Bool, true, false, List, length, take, refl, ap, sym, subst, arith}
use Rattle.serial_terms.specs.declared.call.Done.{Done}
use Rattle.serial_terms.specs.Entries.{Entry, by_caller, up_to}
use Rattle.serial_terms.specs.Histories.{IsLegalRun}
use Rattle.serial_terms.specs.Ranges.{AreCallsOf, BelowCapacity}
use Rattle.serial_terms.specs.Serial.{State}
use Rattle.serial_terms.specs.Sights.{Seen, seen_of}
use Rattle.serial_terms.specs.Stores.{opening_of}
use Rattle.journal_terms.specs.Naming.{IsNotBelow, most_after}
use Rattle.history_audit.specs.declared.counts.Counts.{Counts}
use Rattle.history_audit.specs.declared.lines.Sizes.{Sizes}
use Rattle.history_audit.specs.Counts.{count_of}
use Rattle.history_audit.specs.Ledgers.{layout_of}
use Rattle.history_audit.specs.Structures.{state_of, HasSeen}
use Rattle.history_audit.proofs.Replaying.{listed_replay, end_in, latest_more, afters_more}
use Rattle.history_audit.proofs.Sized.{first_calls}
use Rattle.history_audit.proofs.replay.Replay.admit.Goals as goal

pub returns-then-not-end-clause-exactly : goal.returns-then-not-end-clause-exactly
returns-then-not-end-clause-exactly c = λ es vs w o f. let z : Sizes = c.args.self.now.sizes in
    let t : c.is_end_in-end.result ≡ true = c.is_end_in-end.ensures.1 ((end_in z.tasks z.groups z.findings c.args.sight.now.end).0 f.within.end) in
    let bad : true ≡ false = sym t ∙ c.if-not-end.true in absurd (cc bad)

pub advance-requires-clause-records : goal.advance-requires-clause-records
advance-requires-clause-records c = c.requires

pub sees-requires-clause-about : goal.sees-requires-clause-about
sees-requires-clause-about c = let z : Sizes = c.args.self.now.sizes in
    first_calls z.tasks z.groups z.findings c.args.sight.now.dones (subst (AreCallsOf BelowCapacity (layout_of z)) c.as_slice.ensures (c.if-not-fit.ensures.0 refl))

pub sees-requires-clause-listed : goal.sees-requires-clause-listed
sees-requires-clause-listed c = listed_replay c.pools_are_counts.ensures c.advance.new.self c.args.self.now.sizes c.requires.0 c.in_ok-advance.ensures.kept.sizes (c.in_ok-advance.ensures.replay c.requires.0 c.requires.1) c.requires.1.whole

pub returns-clause-exactly : goal.returns-clause-exactly
returns-clause-exactly c = λ es vs w o.
    let v : Seen Done = seen_of c.args.sight.now in
    let z : Sizes = c.args.self.now.sizes in
    let k = c.in_ok-advance.ensures.kept in
    let r = c.in_ok-advance.ensures.replay es w in
    let reached : up_to v.place es ≡ take c.advance.new.self.done es = c.in_ok-advance.ensures.reached es w in
    let low : v.caller < 16 = omega arith in
    let most : c.get-most.result ≡ most_after v.caller vs = c.get-most.ensures ∙ o.afters v.caller low in
    let above : c.get-most.result ≤ v.after = c.if-sight-most.false in
    let rising : most_after v.caller vs ≤ v.after = omega (arith, most, above) in
    let seen : HasSeen true (state_of c.advance.new.self.structures) v (state_of c.sees.new.self)
    = subst (λ (b : Bool). HasSeen b (state_of c.advance.new.self.structures) v (state_of c.sees.new.self)) c.if-not-seen.false c.in_ok-seen.ensures in
    let here : IsLegalRun (opening_of (layout_of z)) (take c.advance.new.self.done es) (state_of c.advance.new.self.structures)
    = subst (λ (y : Sizes). IsLegalRun (opening_of (layout_of y)) (take c.advance.new.self.done es) (state_of c.advance.new.self.structures)) k.sizes r.run in
    let at : IsLegalRun (opening_of (layout_of z)) (up_to v.place es) (state_of c.advance.new.self.structures)
    = subst (λ (xs : List (Entry Done)). IsLegalRun (opening_of (layout_of z)) xs (state_of c.advance.new.self.structures)) (sym reached) here in
    let count : c.get-count.result ≡ length (by_caller v.caller (up_to v.place es))
    = c.get-count.ensures ∙ (r.counts v.caller low ∙ ap (λ (xs : List (Entry Done)). length (by_caller v.caller xs)) (sym reached)) in
    let few : v.after ≤ c.get-count.result = c.if-sight-count.false in
    record {
      follows = record {
        within = record { caller = low; place = omega arith; end = (end_in z.tasks z.groups z.findings v.end).1 (c.if-not-end.ensures.0 refl); calls = subst (AreCallsOf BelowCapacity (layout_of z)) c.as_slice.ensures (c.if-not-fit.ensures.0 refl) };
        order = subst (λ (p : ℕ × ℕ). IsNotBelow p v) o.last (c.if-not-behind.ensures.0 refl);
        rising = rising;
        consistent = (state_of c.advance.new.self.structures, at, seen.0);
        after = omega (arith, count, few);
      };
      replay = record {
        done = r.done;
        others = r.others;
        run = subst (λ (s : State). IsLegalRun (opening_of (layout_of c.advance.new.self.sizes)) (take c.advance.new.self.done es) s) (sym seen.1) r.run;
        counts = r.counts;
        low = r.low;
      };
      order = record {
        last = ap (λ (p : ℕ). (p, v.caller)) k.place_is ∙ sym (latest_more vs v);
        afters = λ n lt. afters_more n vs v _ (count_of c.advance.new.self.afters n) (c.set.ensures n lt) (ap (λ (a : Counts). count_of a n) k.afters ∙ o.afters n lt) rising;
      };
    }
