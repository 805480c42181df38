-- What the definitions refuse.
use Rattle.std.proofs.Common.{◌≡◌, ℕ, ◌<◌, true, false, [], ◌∷◌, ◌++◌, ⊎_elim, refl, ap, ◌∙◌, sym, arith, rules}
use Rattle.std.specs.Prelude.{Some, None, length}
use Rattle.serial_terms.specs.declared.call.Reply.TheVariants.{Absent, Value, Flag}
use Rattle.serial_terms.specs.RunLayout.{layout_by}
use Rattle.serial_terms.specs.Serial.{State, found}
use Rattle.serial_terms.specs.Stores.{opening_of}
use Rattle.serial_terms.specs.Worked.{maps_alone}
use Rattle.serial_terms.specs.Wrong.{one_queue, WrongHistories, WrongSights, CallsAndLayouts}

values_same : (a b : ℕ) → Value a ≡ Value b → a ≡ b
values_same a b e = cc

pub wrong_histories : WrongHistories
unfolding opening_of
wrong_histories = record {
  log_over = λ end h. let w = h.run.2.logs 0 in let e = h.run.1.1.1.1.1.1 in let a = ap (λ (z : State). length (z.logs 0).items) e in let b = ap (λ (z : State). (z.logs 0).capacity) e in omega arith;
  queue_over = λ end h. let w = h.run.2.queues 0 in let e = h.run.1.1.1.1 in let a = ap (λ (z : State). length (z.queues 0).items) e in let b = ap (λ (z : State). (z.queues 0).capacity) e in omega arith;
  reader_writes = λ end h. let e : Some 70 ≡ None = ap (λ (z : State). z.maps 0 7) (h.run.1.1 ∙ h.run.3 refl) in absurd (cc);
  writer_at_opening = λ end h. let l = h.placed.0 refl in omega arith;
  writers_meet = λ end h. h.apart.0.0 refl refl refl;
  index_missing = λ end h. let e = (h.counted 0).1.0 in omega arith;
  index_from_one = λ end h. let e = (h.counted 0).0 in omega arith;
  place_falls = λ end h. ⊎_elim (λ l. omega arith) (λ p. let e = p.0 in omega arith) h.order.0.0;
  reader_first = λ end h. ⊎_elim (λ l. omega arith) (λ p. ⊎_elim (λ w. let e : false ≡ true = w.0 in absurd (cc)) (λ w. let e : false ≡ true = w.0 in absurd (cc)) p.1) h.order.0.0;
  callers_fall = λ end h. ⊎_elim (λ l. omega arith) (λ p. ⊎_elim (λ w. let e : false ≡ true = w.0 in absurd (cc)) (λ w. ⊎_elim (λ l. omega arith) (λ q. let e = q.0 in omega arith) w.1) p.1) h.order.0.0;
  written_over = λ end h. let e = values_same 51 50 h.run.1.1.1.0 in omega arith;
  found_again = λ end h. let e : Value 50 ≡ Absent = h.run.1.1.1.0 in absurd (cc);
  last_first = λ end h. let e = values_same 6 5 h.run.1.1.1.0 in omega arith;
  item_left = λ end h. let e = values_same 1 0 h.run.1.1.1.0 in omega arith;
  item_missed = λ end h. let e : 1 ≡ 0 = h.run.1.0 in omega arith;
  item_made = λ end h. let l : 0 < 0 = h.run.1.0 in omega arith;
  other_item = λ end h. let l : 0 < 0 = h.run.1.0 in omega arith;
  pool_over = λ end h. let e : Flag true ≡ Flag false = h.run.1.0 in let f : true ≡ false = cc in absurd (cc);
  slot_missed = λ end h. let e : Flag false ≡ Flag true = h.run.1.0 in let f : false ≡ true = cc in absurd (cc);
  put_in_front = λ end h. let e = values_same 4 3 h.run.1.1.1.0 in omega arith;
  place_after = λ end h. let e = values_same 1 0 h.run.1.0 in omega arith;
}

nowhere : (s : State) → opening_of (maps_alone 16) ≡ s → found (s.maps 0 7) ≡ Absent
unfolding opening_of
nowhere s e = ap (λ (z : State). found (z.maps 0 7)) (sym e)

three : (s : State) → opening_of one_queue ≡ s → length ((((s.queues 0).items ++ 5 ∷ []) ++ 6 ∷ []) ++ 7 ∷ []) ≡ 3
unfolding opening_of
three s e = ap (λ (z : State). length ((((z.queues 0).items ++ 5 ∷ []) ++ 6 ∷ []) ++ 7 ∷ [])) (sym e)

pub wrong_sights : WrongSights
unfolding opening_of
wrong_sights = record {
  full_at_capacity = λ c. let l = c.2.2.1 in let a = ap (λ (z : State). (z.queues 0).capacity) c.1 in let b = ap (λ (z : State). (z.queues 0).capacity) c.2.1.1.1 in omega arith;
  other_length = λ c. let l = c.2.2.0 in let b = ap (λ (z : State). length (z.queues 0).items) c.2.1.1.1.1 in let d = three c.0 c.1 in omega arith;
  log_by_own_number = λ c. let l = c.2.2.0 in let a = ap (λ (z : State). length (z.queues 0).items) c.1 in let b = ap (λ (z : State). length (z.queues 0).items) c.2.1.1.1.1 in omega arith;
  seen_too_early = λ c. let e : Value 70 ≡ Absent = c.2.1.0 ∙ nowhere c.0 c.1 in absurd (cc);
  too_many_before = λ a. let l = a.counted in omega arith;
  before_its_record = λ a. let l = a.placed.0 refl in omega arith;
  place_falls = λ a. ⊎_elim (λ l. omega arith) (λ p. let e = p.0 in omega arith) a.order.0.0;
  callers_fall = λ a. ⊎_elim (λ l. omega arith) (λ p. let l = p.1 in omega arith) a.order.0.0;
  after_falls = λ a. let l = a.rising.0.0 refl in omega arith;
}

pub calls_and_layouts : CallsAndLayouts
unfolding layout_by
calls_and_layouts = record {
  of_one_frame = search rules;
  of_two_fragments = search rules;
  key_at_capacity = λ c. let l = c.passing in omega arith;
  third_map = λ c. let l = c.there in omega arith;
  second_queue = λ c. omega arith;
  second_pool = λ c. omega arith;
  second_log = λ c. let l = c.0 in omega arith;
  second_cell = λ c. omega arith;
  value_too_great = λ c. let l = c.1 in omega arith;
  word_too_great = λ c. let l = c.1 in omega arith;
  of_none = refl;
  of_one = refl;
  of_two = refl;
  of_many = refl;
}
