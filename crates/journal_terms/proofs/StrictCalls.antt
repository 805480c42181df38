-- Words are read as a call with its reply exactly where they are that call's.
use Rattle.std.specs.Str.{bytes_eq}
use Rattle.std.specs.List.{join_with_byte}
use Rattle.std.proofs.Common.{◌≡◌, ℕ, ◌^◌, inl, inr, Bool, true, false, eqb, List, [], ◌∷◌, ◌++◌, map, sym, refl, ap, ◌∙◌, subst, Option, Some, None, arith, codes, decimal}
use Rattle.std.proofs.lemmas.Bool.{eqb-true}
use Rattle.std.proofs.lemmas.List.Splits.{join_with_byte-slice_split}
use Rattle.serial_terms.specs.declared.call.Call.{Call}
use Rattle.serial_terms.specs.declared.call.Call.TheVariants.{MapGet, MapPut, MapRemove, MapPutIfAbsent, Enqueue, Dequeue, QueueLen, Take, Give, Append, AppendPlaced, LogRead, LogLen, CellGet, CellPut}
use Rattle.serial_terms.specs.declared.call.Reply.{Reply}
use Rattle.serial_terms.specs.declared.call.Reply.TheVariants.{Nothing}
use Rattle.serial_terms.specs.declared.call.Done.{Done}
use Rattle.serial_terms.specs.Entries.{Each}
use Rattle.serial_terms.specs.Kinds.{IsOfKind}
use Rattle.journal_terms.specs.Text.{space, semicolon, mark, call_name, call_words, done_text, calls_text}
use Rattle.journal_terms.specs.Laws.{IsShort, HasShortCall, HasShortReply, IsWritable}
use Rattle.journal_terms.specs.Reading.{cut_at}
use Rattle.journal_terms.specs.Strict.{both, all_three, all_four, number, small, value, value_or_absent, flag, read_two, read_three, read_four, read_call, read_words, as_done, read_marked, read_piece, read_pieces, read_calls, structure_of, IsSmall, IsReadable}
use Rattle.journal_terms.proofs.Cutting.{Lacks, cut_join}
use Rattle.journal_terms.proofs.Words.{IsWord}
use Rattle.journal_terms.proofs.Calls.{nothing_back, all_words, each_map, pieces_lack, spaced}
use Rattle.journal_terms.proofs.StrictNumbers.{if_so, if_cases, is_word, number_back, number_is, value_is, value_or_absent_is, flag_is, value_back, value_or_absent_back, flag_back}

-- ---- what several readers gave

module _ {A B C : Type 0} (P : C → Type 0) (f : A → B → C) where
  pub by_both : (o : Option A) (p : Option B) (z : C) → both o p f ≡ Some z → ((a : A) (b : B) → o ≡ Some a → p ≡ Some b → P (f a b)) → P z
  by_both (Some a) (Some b) z e h = let same : f a b ≡ z = cc e in subst P same (h a b refl refl)
  by_both (Some a) None z e h = absurd (cc e)
  by_both None p z e h = absurd (cc e)

module _ {A B C D : Type 0} (P : D → Type 0) (f : A → B → C → D) where
  pub by_three : (o : Option A) (p : Option B) (q : Option C) (z : D) → all_three o p q f ≡ Some z → ((a : A) (b : B) (c : C) → o ≡ Some a → p ≡ Some b → q ≡ Some c → P (f a b c)) → P z
  by_three (Some a) (Some b) (Some c) z e h = let same : f a b c ≡ z = cc e in subst P same (h a b c refl refl refl)
  by_three (Some a) (Some b) None z e h = absurd (cc e)
  by_three (Some a) None q z e h = absurd (cc e)
  by_three None p q z e h = absurd (cc e)

module _ {A B C D E : Type 0} (P : E → Type 0) (f : A → B → C → D → E) where
  pub by_four : (o : Option A) (p : Option B) (q : Option C) (r : Option D) (z : E) → all_four o p q r f ≡ Some z → ((a : A) (b : B) (c : C) (d : D) → o ≡ Some a → p ≡ Some b → q ≡ Some c → r ≡ Some d → P (f a b c d)) → P z
  by_four (Some a) (Some b) (Some c) (Some d) z e h = let same : f a b c d ≡ z = cc e in subst P same (h a b c d refl refl refl refl)
  by_four (Some a) (Some b) (Some c) None z e h = absurd (cc e)
  by_four (Some a) (Some b) None r z e h = absurd (cc e)
  by_four (Some a) None q r z e h = absurd (cc e)
  by_four None p q r z e h = absurd (cc e)

pub number_of : (w : List ℕ) (n : ℕ) → number w ≡ Some n → IsShort n × (decimal n ≡ w)
number_of w n e = number_is (2 ^ 64) w n (omega arith) e

pub small_of : (w : List ℕ) (n : ℕ) → small w ≡ Some n → IsSmall n × (decimal n ≡ w)
small_of w n e = number_is (2 ^ 32) w n (omega arith) e

pub short_back : (n : ℕ) → IsShort n → number (decimal n) ≡ Some n
short_back n s = number_back (2 ^ 64) n s (omega arith)

pub small_back : (n : ℕ) → IsSmall n → small (decimal n) ≡ Some n
small_back n s = number_back (2 ^ 32) n s (omega arith)

-- ---- what the words of a call are

record IsCallText (ws : List (List ℕ)) (p : Call × Reply) : Type 0 where
  words : call_name p.0 ∷ call_words p.0 p.1 ≡ ws
  kind : IsOfKind p.0 p.1
  call : HasShortCall p.0
  reply : HasShortReply p.1
  low : IsSmall (structure_of p.0)

module _ (name a b : List ℕ) where
  abbrev P2 : Call × Reply → Type 0
  P2 = IsCallText (name ∷ a ∷ b ∷ [])

  two_is : (p : Call × Reply) → read_two name a b ≡ Some p → P2 p
  unfolding read_two
  two_is p e = elim (if_cases (bytes_eq name (codes "deq")) _ _ p e) [
    | inl h ↦ by_both P2 (λ q r. (Dequeue q, r)) (small a) (value_or_absent b) p h.1 (λ q r x y. let u = small_of a q x in let v = value_or_absent_is b r y in
        record { words = λ i. is_word name (codes "deq") h.0 i ∷ u.1 i ∷ v.word i ∷ []; kind = v.kind; call = omega arith; reply = v.short; low = u.0 })
    | inr n1 ↦ elim (if_cases (bytes_eq name (codes "take")) _ _ p n1.1) [
      | inl h ↦ by_both P2 (λ q r. (Take q, r)) (small a) (value_or_absent b) p h.1 (λ q r x y. let u = small_of a q x in let v = value_or_absent_is b r y in
          record { words = λ i. is_word name (codes "take") h.0 i ∷ u.1 i ∷ v.word i ∷ []; kind = v.kind; call = omega arith; reply = v.short; low = u.0 })
      | inr n2 ↦ elim (if_cases (bytes_eq name (codes "enq")) _ _ p n2.1) [
        | inl h ↦ by_both P2 (λ q v. (Enqueue q v, Nothing)) (small a) (number b) p h.1 (λ m k x y. let u = small_of a m x in let v = number_of b k y in
            record { words = λ i. is_word name (codes "enq") h.0 i ∷ u.1 i ∷ v.1 i ∷ []; kind = tt; call = (omega arith, v.0); reply = tt; low = u.0 })
        | inr n3 ↦ elim (if_cases (bytes_eq name (codes "remove")) _ _ p n3.1) [
          | inl h ↦ by_both P2 (λ q v. (MapRemove q v, Nothing)) (small a) (number b) p h.1 (λ m k x y. let u = small_of a m x in let v = number_of b k y in
              record { words = λ i. is_word name (codes "remove") h.0 i ∷ u.1 i ∷ v.1 i ∷ []; kind = tt; call = (omega arith, v.0); reply = tt; low = u.0 })
          | inr n4 ↦ elim (if_cases (bytes_eq name (codes "app")) _ _ p n4.1) [
            | inl h ↦ by_both P2 (λ q v. (Append q v, Nothing)) (small a) (number b) p h.1 (λ m k x y. let u = small_of a m x in let v = number_of b k y in
                record { words = λ i. is_word name (codes "app") h.0 i ∷ u.1 i ∷ v.1 i ∷ []; kind = tt; call = (omega arith, v.0); reply = tt; low = u.0 })
            | inr n5 ↦ elim (if_cases (bytes_eq name (codes "qlen")) _ _ p n5.1) [
              | inl h ↦ by_both P2 (λ q r. (QueueLen q, r)) (small a) (value b) p h.1 (λ q r x y. let u = small_of a q x in let v = value_is b r y in
                  record { words = λ i. is_word name (codes "qlen") h.0 i ∷ u.1 i ∷ v.word i ∷ []; kind = v.kind; call = omega arith; reply = v.short; low = u.0 })
              | inr n6 ↦ elim (if_cases (bytes_eq name (codes "llen")) _ _ p n6.1) [
                | inl h ↦ by_both P2 (λ q r. (LogLen q, r)) (small a) (value b) p h.1 (λ q r x y. let u = small_of a q x in let v = value_is b r y in
                    record { words = λ i. is_word name (codes "llen") h.0 i ∷ u.1 i ∷ v.word i ∷ []; kind = v.kind; call = omega arith; reply = v.short; low = u.0 })
                | inr n7 ↦ elim (if_cases (bytes_eq name (codes "cget")) _ _ p n7.1) [
                  | inl h ↦ by_both P2 (λ q r. (CellGet q, r)) (small a) (value b) p h.1 (λ q r x y. let u = small_of a q x in let v = value_is b r y in
                      record { words = λ i. is_word name (codes "cget") h.0 i ∷ u.1 i ∷ v.word i ∷ []; kind = v.kind; call = omega arith; reply = v.short; low = u.0 })
                  | inr n8 ↦ (let h = if_so (bytes_eq name (codes "cput")) _ p n8.1 in
                      by_both P2 (λ q v. (CellPut q v, Nothing)) (small a) (number b) p h.1 (λ m k x y. let u = small_of a m x in let v = number_of b k y in
                      record { words = λ i. is_word name (codes "cput") h.0 i ∷ u.1 i ∷ v.1 i ∷ []; kind = tt; call = (omega arith, v.0); reply = tt; low = u.0 }))
                ]
              ]
            ]
          ]
        ]
      ]
    ]
  ]

module _ (name a b c : List ℕ) where
  abbrev P3 : Call × Reply → Type 0
  P3 = IsCallText (name ∷ a ∷ b ∷ c ∷ [])

  three_is : (p : Call × Reply) → read_three name a b c ≡ Some p → P3 p
  unfolding read_three
  three_is p e = elim (if_cases (bytes_eq name (codes "get")) _ _ p e) [
    | inl h ↦ by_three P3 (λ m k r. (MapGet m k, r)) (small a) (number b) (value_or_absent c) p h.1 (λ m k r x y z. let u = small_of a m x in let v = number_of b k y in let w = value_or_absent_is c r z in
        record { words = λ i. is_word name (codes "get") h.0 i ∷ u.1 i ∷ v.1 i ∷ w.word i ∷ []; kind = w.kind; call = (omega arith, v.0); reply = w.short; low = u.0 })
    | inr n1 ↦ elim (if_cases (bytes_eq name (codes "put")) _ _ p n1.1) [
      | inl h ↦ by_three P3 (λ m k v. (MapPut m k v, Nothing)) (small a) (number b) (number c) p h.1 (λ m k r x y z. let u = small_of a m x in let v = number_of b k y in let w = number_of c r z in
          record { words = λ i. is_word name (codes "put") h.0 i ∷ u.1 i ∷ v.1 i ∷ w.1 i ∷ []; kind = tt; call = (omega arith, v.0, w.0); reply = tt; low = u.0 })
      | inr n2 ↦ elim (if_cases (bytes_eq name (codes "appat")) _ _ p n2.1) [
        | inl h ↦ by_three P3 (λ m k r. (AppendPlaced m k, r)) (small a) (number b) (value c) p h.1 (λ m k r x y z. let u = small_of a m x in let v = number_of b k y in let w = value_is c r z in
            record { words = λ i. is_word name (codes "appat") h.0 i ∷ u.1 i ∷ v.1 i ∷ w.word i ∷ []; kind = w.kind; call = (omega arith, v.0); reply = w.short; low = u.0 })
        | inr n3 ↦ elim (if_cases (bytes_eq name (codes "give")) _ _ p n3.1) [
          | inl h ↦ by_three P3 (λ m k r. (Give m k, r)) (small a) (number b) (flag c) p h.1 (λ m k r x y z. let u = small_of a m x in let v = number_of b k y in let w = flag_is c r z in
              record { words = λ i. is_word name (codes "give") h.0 i ∷ u.1 i ∷ v.1 i ∷ w.word i ∷ []; kind = w.kind; call = (omega arith, v.0); reply = w.short; low = u.0 })
          | inr n4 ↦ (let h = if_so (bytes_eq name (codes "read")) _ p n4.1 in
              by_three P3 (λ m k r. (LogRead m k, r)) (small a) (number b) (value_or_absent c) p h.1 (λ m k r x y z. let u = small_of a m x in let v = number_of b k y in let w = value_or_absent_is c r z in
              record { words = λ i. is_word name (codes "read") h.0 i ∷ u.1 i ∷ v.1 i ∷ w.word i ∷ []; kind = w.kind; call = (omega arith, v.0); reply = w.short; low = u.0 }))
        ]
      ]
    ]
  ]

four_is : (name a b c d : List ℕ) (p : Call × Reply) → read_four name a b c d ≡ Some p → IsCallText (name ∷ a ∷ b ∷ c ∷ d ∷ []) p
unfolding read_four
four_is name a b c d p e = let h = if_so (bytes_eq name (codes "putnew")) _ p e in
    by_four (IsCallText (name ∷ a ∷ b ∷ c ∷ d ∷ [])) (λ m k v r. (MapPutIfAbsent m k v, r)) (small a) (number b) (number c) (value_or_absent d) p h.1 (λ m k v r x y z t.
    let u = small_of a m x in let l = number_of b k y in let n = number_of c v z in let w = value_or_absent_is d r t in
    record { words = λ i. is_word name (codes "putnew") h.0 i ∷ u.1 i ∷ l.1 i ∷ n.1 i ∷ w.word i ∷ []; kind = w.kind; call = (omega arith, l.0, n.0); reply = w.short; low = u.0 })

words_are_call : (ws : List (List ℕ)) (p : Call × Reply) → read_words ws ≡ Some p → IsCallText ws p
words_are_call [] p e = absurd (cc e)
words_are_call (name ∷ []) p e = absurd (cc e)
words_are_call (name ∷ a ∷ []) p e = absurd (cc e)
words_are_call (name ∷ a ∷ b ∷ []) p e = two_is name a b p e
words_are_call (name ∷ a ∷ b ∷ c ∷ []) p e = three_is name a b c p e
words_are_call (name ∷ a ∷ b ∷ c ∷ d ∷ []) p e = four_is name a b c d p e
words_are_call (name ∷ a ∷ b ∷ c ∷ d ∷ x ∷ xs) p e = absurd (cc e)

-- ---- and the words of a call are read as it

call_back : (c : Call) (r : Reply) → IsOfKind c r → HasShortCall c → HasShortReply r → IsSmall (structure_of c) → read_call (call_name c) (call_words c r) ≡ Some (c, r)
unfolding read_two read_three read_four
call_back (MapGet m k) r f s t l = λ i. all_three (small_back m l i) (short_back k s.1 i) (value_or_absent_back r f t i) (λ x y z. (MapGet x y, z))
call_back (MapPut m k v) r f s t l = (λ i. all_three (small_back m l i) (short_back k s.1 i) (short_back v s.2 i) (λ x y z. (MapPut x y z, Nothing))) ∙ (λ i. Some (MapPut m k v, nothing_back r f i))
call_back (MapRemove m k) r f s t l = (λ i. both (small_back m l i) (short_back k s.1 i) (λ x y. (MapRemove x y, Nothing))) ∙ (λ i. Some (MapRemove m k, nothing_back r f i))
call_back (MapPutIfAbsent m k v) r f s t l = λ i. all_four (small_back m l i) (short_back k s.1 i) (short_back v s.2 i) (value_or_absent_back r f t i) (λ x y z w. (MapPutIfAbsent x y z, w))
call_back (Enqueue q v) r f s t l = (λ i. both (small_back q l i) (short_back v s.1 i) (λ x y. (Enqueue x y, Nothing))) ∙ (λ i. Some (Enqueue q v, nothing_back r f i))
call_back (Dequeue q) r f s t l = λ i. both (small_back q l i) (value_or_absent_back r f t i) (λ x y. (Dequeue x, y))
call_back (QueueLen q) r f s t l = λ i. both (small_back q l i) (value_back r f t i) (λ x y. (QueueLen x, y))
call_back (Take p) r f s t l = λ i. both (small_back p l i) (value_or_absent_back r f t i) (λ x y. (Take x, y))
call_back (Give p v) r f s t l = λ i. all_three (small_back p l i) (short_back v s.1 i) (flag_back r f i) (λ x y z. (Give x y, z))
call_back (Append q v) r f s t l = (λ i. both (small_back q l i) (short_back v s.1 i) (λ x y. (Append x y, Nothing))) ∙ (λ i. Some (Append q v, nothing_back r f i))
call_back (AppendPlaced q v) r f s t l = λ i. all_three (small_back q l i) (short_back v s.1 i) (value_back r f t i) (λ x y z. (AppendPlaced x y, z))
call_back (LogRead q n) r f s t l = λ i. all_three (small_back q l i) (short_back n s.1 i) (value_or_absent_back r f t i) (λ x y z. (LogRead x y, z))
call_back (LogLen q) r f s t l = λ i. both (small_back q l i) (value_back r f t i) (λ x y. (LogLen x, y))
call_back (CellGet c) r f s t l = λ i. both (small_back c l i) (value_back r f t i) (λ x y. (CellGet x, y))
call_back (CellPut c v) r f s t l = (λ i. both (small_back c l i) (short_back v s.1 i) (λ x y. (CellPut x y, Nothing))) ∙ (λ i. Some (CellPut c v, nothing_back r f i))

-- ---- a call with its mark

join_mark : (w : List ℕ) (ws : List (List ℕ)) → join_with_byte space ((43 ∷ w) ∷ ws) ≡ 43 ∷ join_with_byte space (w ∷ ws)
join_mark w [] = refl
join_mark w (x ∷ xs) = refl

record IsDoneText (bs : List ℕ) (d : Done) : Type 0 where
  readable : IsReadable d
  text : done_text d ≡ bs

pub cut_words : (bs : List ℕ) (ws : List (List ℕ)) → ws ≡ cut_at space bs → join_with_byte space ws ≡ bs
cut_words bs ws e = ap (join_with_byte space) e ∙ join_with_byte-slice_split space bs

plain_is : (bs : List ℕ) (d : Done) → as_done false (read_words (cut_at space bs)) ≡ Some d → IsDoneText bs d
plain_is bs d e = by_read (read_words (cut_at space bs)) e (words_are_call (cut_at space bs))
  where
    by_read : (o : Option (Call × Reply)) → as_done false o ≡ Some d → ((p : Call × Reply) → o ≡ Some p → IsCallText (cut_at space bs) p) → IsDoneText bs d
    by_read None f h = absurd (cc f)
    by_read (Some p) f h = let t = h p refl in let same : record { call = p.0; reply = p.1; child = false } ≡ d = cc f in
        subst (IsDoneText bs) same (record { readable = (((t.kind, t.call, t.reply)), t.low); text = cut_words bs (call_name p.0 ∷ call_words p.0 p.1) t.words })

marked_is : (bs : List ℕ) (d : Done) → as_done true (read_words (cut_at space bs)) ≡ Some d → IsDoneText (43 ∷ bs) d
marked_is bs d e = by_read (read_words (cut_at space bs)) e (words_are_call (cut_at space bs))
  where
    by_read : (o : Option (Call × Reply)) → as_done true o ≡ Some d → ((p : Call × Reply) → o ≡ Some p → IsCallText (cut_at space bs) p) → IsDoneText (43 ∷ bs) d
    by_read None f h = absurd (cc f)
    by_read (Some p) f h = let t = h p refl in let same : record { call = p.0; reply = p.1; child = true } ≡ d = cc f in
        subst (IsDoneText (43 ∷ bs)) same (record { readable = (((t.kind, t.call, t.reply)), t.low); text = join_mark (call_name p.0) (call_words p.0 p.1) ∙ ap (λ (z : List ℕ). 43 ∷ z) (cut_words bs (call_name p.0 ∷ call_words p.0 p.1) t.words) })

done_is : (bs : List ℕ) (d : Done) → read_marked bs ≡ Some d → IsDoneText bs d
done_is [] d e = absurd (cc e)
done_is (b ∷ bs) d e = elim (if_cases (eqb b 43) _ _ d e) [
  | inl h ↦ subst (λ (z : ℕ). IsDoneText (z ∷ bs) d) (sym (eqb-true b 43 h.0)) (marked_is bs d h.1)
  | inr h ↦ plain_is (b ∷ bs) d h.1
]

unmarked : (c : Call) (ws : List (List ℕ)) → read_marked (join_with_byte space (call_name c ∷ ws)) ≡ as_done false (read_words (cut_at space (join_with_byte space (call_name c ∷ ws))))
unmarked (MapGet m k) [] = refl
unmarked (MapGet m k) (w ∷ ws) = refl
unmarked _ [] = refl
unmarked _ (w ∷ ws) = refl

words_cut : (d : Done) → IsWritable d → cut_at space (done_text d) ≡ (mark d.child ++ call_name d.call) ∷ call_words d.call d.reply
words_cut d w = cut_join space (mark d.child ++ call_name d.call) (call_words d.call d.reply) (each_map IsWord (Lacks space) (λ x f. f.spaces) ((mark d.child ++ call_name d.call) ∷ call_words d.call d.reply) (all_words d w))

module _ (c : Call) (r : Reply) (w : IsOfKind c r × HasShortCall c × HasShortReply r) (low : IsSmall (structure_of c)) where
  abbrev plain_text : List ℕ
  plain_text = join_with_byte space (call_name c ∷ call_words c r)

  plain_cut : cut_at space plain_text ≡ call_name c ∷ call_words c r
  plain_cut = words_cut (record { call = c; reply = r; child = false }) w

  read_plain : (child : Bool) → as_done child (read_words (cut_at space plain_text)) ≡ Some (record { call = c; reply = r; child = child })
  read_plain child = ap (λ (z : List (List ℕ)). as_done child (read_words z)) plain_cut ∙ ap (as_done child) (call_back c r w.0 w.1 w.2 low)

  marked_back : (child : Bool) → read_marked (done_text (record { call = c; reply = r; child = child })) ≡ Some (record { call = c; reply = r; child = child })
  marked_back true = ap read_marked (join_mark (call_name c) (call_words c r)) ∙ read_plain true
  marked_back false = unmarked c (call_words c r) ∙ read_plain false

-- ---- a space, and all calls of a line

record IsPiece (p : List ℕ) (d : Done) : Type 0 where
  readable : IsReadable d
  text : space ∷ done_text d ≡ p

piece_is : (p : List ℕ) (d : Done) → read_piece p ≡ Some d → IsPiece p d
unfolding read_piece
piece_is [] d e = absurd (cc e)
piece_is (b ∷ bs) d e = let h = if_so (eqb b 32) (read_marked bs) d e in let t = done_is bs d h.1 in
    record { readable = t.readable; text = λ i. sym (eqb-true b 32 h.0) i ∷ t.text i }

piece_back : (d : Done) → IsReadable d → read_piece (space ∷ done_text d) ≡ Some d
unfolding read_piece
piece_back d h = marked_back d.call d.reply h.0 h.1 d.child

record ArePieces (ps : List (List ℕ)) (ds : List Done) : Type 0 where
  readable : Each IsReadable ds
  text : map spaced ds ≡ ps

pieces_are : (ps : List (List ℕ)) (ds : List Done) → read_pieces ps ≡ Some ds → ArePieces ps ds
pieces_are [] ds e = let none : [] ≡ ds = cc e in subst (ArePieces []) none (record { readable = tt; text = refl })
pieces_are (p ∷ ps) ds e = by_both (ArePieces (p ∷ ps)) (λ d es. d ∷ es) (read_piece p) (read_pieces ps) ds e (λ d es x y. let first = piece_is p d x in let rest = pieces_are ps es y in
    record { readable = (first.readable, rest.readable); text = λ i. first.text i ∷ rest.text i })

pieces_back : (ds : List Done) → Each IsReadable ds → read_pieces (map spaced ds) ≡ Some ds
pieces_back [] h = refl
pieces_back (d ∷ ds) h = λ i. both (piece_back d h.0 i) (pieces_back ds h.1 i) (λ x xs. x ∷ xs)

pub record AreCalls (bs : List ℕ) (ds : List Done) : Type 0 where
  pub readable : Each IsReadable ds
  pub text : calls_text ds ≡ bs

pub calls_are : (bs : List ℕ) (ds : List Done) → read_calls bs ≡ Some ds → AreCalls bs ds
calls_are [] ds e = let none : [] ≡ ds = cc e in subst (AreCalls []) none (record { readable = tt; text = refl })
calls_are (b ∷ bs) ds e = let h = pieces_are (cut_at semicolon (b ∷ bs)) ds e in
    record { readable = h.readable; text = ap (join_with_byte semicolon) h.text ∙ join_with_byte-slice_split semicolon (b ∷ bs) }

spaced_first : (d : Done) (ds : List Done) → read_calls (join_with_byte semicolon (map spaced (d ∷ ds))) ≡ read_pieces (cut_at semicolon (join_with_byte semicolon (map spaced (d ∷ ds))))
spaced_first d [] = refl
spaced_first d (e ∷ es) = refl

pub writable : (ds : List Done) → Each IsReadable ds → Each IsWritable ds
writable ds h = each_map IsReadable IsWritable (λ d f. f.0) ds h

pub calls_back : (ds : List Done) → Each IsReadable ds → read_calls (calls_text ds) ≡ Some ds
calls_back [] h = refl
calls_back (d ∷ ds) h = spaced_first d ds ∙ (ap read_pieces (cut_join semicolon (spaced d) (map spaced ds) (pieces_lack semicolon refl (λ x f. f.semicolons) (d ∷ ds) (writable (d ∷ ds) h))) ∙ pieces_back (d ∷ ds) h)
