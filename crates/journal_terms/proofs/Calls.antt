-- The words of a call read back as the call, and the calls of a record as those calls.
use Rattle.std.proofs.Common.{◌≡◌, ℕ, Bool, true, false, eqb, List, [], ◌∷◌, ◌++◌, map, refl, ap, ◌∙◌, Some}
use Rattle.std.specs.List.{join_with_byte}
use Rattle.std.proofs.lemmas.List.Elements.{All-cons}
use Rattle.serial_terms.specs.declared.call.Call.{Call}
use Rattle.serial_terms.specs.declared.call.Call.TheVariants.{MapGet, MapPut, MapRemove, MapPutIfAbsent, Enqueue, Dequeue, QueueLen, Take, Give, Append, AppendPlaced, LogRead, LogLen, CellGet, CellPut}
use Rattle.serial_terms.specs.declared.call.Reply.{Reply}
use Rattle.serial_terms.specs.declared.call.Reply.TheVariants.{Nothing, Absent, Value, Flag}
use Rattle.serial_terms.specs.declared.call.Done.{Done}
use Rattle.serial_terms.specs.Entries.{Each}
use Rattle.serial_terms.specs.Kinds.{IsNothing, IsOfKind}
use Rattle.journal_terms.specs.Text.{space, semicolon, mark, call_name, call_words, done_text, calls_text}
use Rattle.journal_terms.specs.Reading.{cut_at, read_call, read_marked, as_done, read_done, also, read_dones, read_calls}
use Rattle.journal_terms.specs.Laws.{HasShortCall, HasShortReply, IsWritable}
use Rattle.journal_terms.proofs.Cutting.{Lacks, plain, cut_join, lacks_join}
use Rattle.journal_terms.proofs.Words.{IsWord, plain_word, decimal_word, reply_is_word, number_back, value_or_absent_back, value_back, flag_back}

pub nothing_back : (r : Reply) → IsNothing r → Nothing ≡ r
nothing_back Nothing k = refl
nothing_back Absent k = absurd k
nothing_back (Value v) k = absurd k
nothing_back (Flag b) k = absurd k

name_plain : (c : Call) → plain (call_name c) ≡ true
name_plain (MapGet m k) = refl
name_plain _ = refl

name_word : (b : Bool) (c : Call) → IsWord (mark b ++ call_name c)
name_word true c = plain_word (mark true ++ call_name c) (name_plain c)
name_word false c = plain_word (call_name c) (name_plain c)

words_are : (c : Call) (r : Reply) → HasShortCall c → HasShortReply r → Each IsWord (call_words c r)
words_are (MapGet m k) r s t = (decimal_word m s.0, (decimal_word k s.1, (reply_is_word r t, tt)))
words_are (MapPut m k v) r s t = (decimal_word m s.0, (decimal_word k s.1, (decimal_word v s.2, tt)))
words_are (MapRemove m k) r s t = (decimal_word m s.0, (decimal_word k s.1, tt))
words_are (MapPutIfAbsent m k v) r s t = (decimal_word m s.0, (decimal_word k s.1, (decimal_word v s.2, (reply_is_word r t, tt))))
words_are (Enqueue q v) r s t = (decimal_word q s.0, (decimal_word v s.1, tt))
words_are (Dequeue q) r s t = (decimal_word q s, (reply_is_word r t, tt))
words_are (QueueLen q) r s t = (decimal_word q s, (reply_is_word r t, tt))
words_are (Take p) r s t = (decimal_word p s, (reply_is_word r t, tt))
words_are (Give p v) r s t = (decimal_word p s.0, (decimal_word v s.1, (reply_is_word r t, tt)))
words_are (Append l v) r s t = (decimal_word l s.0, (decimal_word v s.1, tt))
words_are (AppendPlaced l v) r s t = (decimal_word l s.0, (decimal_word v s.1, (reply_is_word r t, tt)))
words_are (LogRead l n) r s t = (decimal_word l s.0, (decimal_word n s.1, (reply_is_word r t, tt)))
words_are (LogLen l) r s t = (decimal_word l s, (reply_is_word r t, tt))
words_are (CellGet c) r s t = (decimal_word c s, (reply_is_word r t, tt))
words_are (CellPut c v) r s t = (decimal_word c s.0, (decimal_word v s.1, tt))

call_back : (c : Call) (r : Reply) → IsOfKind c r → HasShortCall c → HasShortReply r → read_call (call_name c) (call_words c r) ≡ Some (c, r)
call_back (MapGet m k) r f s t = λ i. Some (MapGet (number_back m s.0 i) (number_back k s.1 i), value_or_absent_back r f t i)
call_back (MapPut m k v) r f s t = λ i. Some (MapPut (number_back m s.0 i) (number_back k s.1 i) (number_back v s.2 i), nothing_back r f i)
call_back (MapRemove m k) r f s t = λ i. Some (MapRemove (number_back m s.0 i) (number_back k s.1 i), nothing_back r f i)
call_back (MapPutIfAbsent m k v) r f s t = λ i. Some (MapPutIfAbsent (number_back m s.0 i) (number_back k s.1 i) (number_back v s.2 i), value_or_absent_back r f t i)
call_back (Enqueue q v) r f s t = λ i. Some (Enqueue (number_back q s.0 i) (number_back v s.1 i), nothing_back r f i)
call_back (Dequeue q) r f s t = λ i. Some (Dequeue (number_back q s i), value_or_absent_back r f t i)
call_back (QueueLen q) r f s t = λ i. Some (QueueLen (number_back q s i), value_back r f t i)
call_back (Take p) r f s t = λ i. Some (Take (number_back p s i), value_or_absent_back r f t i)
call_back (Give p v) r f s t = λ i. Some (Give (number_back p s.0 i) (number_back v s.1 i), flag_back r f i)
call_back (Append l v) r f s t = λ i. Some (Append (number_back l s.0 i) (number_back v s.1 i), nothing_back r f i)
call_back (AppendPlaced l v) r f s t = λ i. Some (AppendPlaced (number_back l s.0 i) (number_back v s.1 i), value_back r f t i)
call_back (LogRead l n) r f s t = λ i. Some (LogRead (number_back l s.0 i) (number_back n s.1 i), value_or_absent_back r f t i)
call_back (LogLen l) r f s t = λ i. Some (LogLen (number_back l s i), value_back r f t i)
call_back (CellGet c) r f s t = λ i. Some (CellGet (number_back c s i), value_back r f t i)
call_back (CellPut c v) r f s t = λ i. Some (CellPut (number_back c s.0 i) (number_back v s.1 i), nothing_back r f i)

unmarked : (c : Call) (ws : List (List ℕ)) → read_marked (call_name c) ws ≡ as_done false (read_call (call_name c) ws)
unmarked (MapGet m k) ws = refl
unmarked _ ws = refl

marked_back : (b : Bool) (c : Call) (ws : List (List ℕ)) → read_marked (mark b ++ call_name c) ws ≡ as_done b (read_call (call_name c) ws)
marked_back true c ws = refl
marked_back false c ws = unmarked c ws

pub each_map : {A : Type 0} (P Q : A → Type 0) → ((x : A) → P x → Q x) → (xs : List A) → Each P xs → Each Q xs
each_map P Q f [] e = tt
each_map P Q f (x ∷ xs) e = (f x e.0, each_map P Q f xs e.1)

pub all_words : (d : Done) → IsWritable d → Each IsWord ((mark d.child ++ call_name d.call) ∷ call_words d.call d.reply)
all_words d w = (name_word d.child d.call, words_are d.call d.reply w.1 w.2)

done_back : (d : Done) → IsWritable d → read_done (cut_at space (space ∷ done_text d)) ≡ Some d
done_back d w = let name : List ℕ = mark d.child ++ call_name d.call in let words : List (List ℕ) = call_words d.call d.reply in
    let cut : cut_at space (done_text d) ≡ name ∷ words = cut_join space name words (each_map IsWord (Lacks space) (λ x f. f.spaces) (name ∷ words) (all_words d w)) in
    ap (λ (z : List (List ℕ)). read_done ([] ∷ z)) cut ∙ (marked_back d.child d.call words ∙ ap (as_done d.child) (call_back d.call d.reply w.0 w.1 w.2))

done_lacks : (c : ℕ) → eqb 32 c ≡ false → ((x : List ℕ) → IsWord x → Lacks c x) → (d : Done) → IsWritable d → Lacks c (space ∷ done_text d)
done_lacks c ne f d w = All-cons (λ x. eqb x c ≡ false) space (done_text d) ne (lacks_join c space ne ((mark d.child ++ call_name d.call) ∷ call_words d.call d.reply) (each_map IsWord (Lacks c) f ((mark d.child ++ call_name d.call) ∷ call_words d.call d.reply) (all_words d w)))

abbrev pub spaced : Done → List ℕ
spaced d = space ∷ done_text d

pub pieces_lack : (c : ℕ) → eqb 32 c ≡ false → ((x : List ℕ) → IsWord x → Lacks c x) → (ds : List Done) → Each IsWritable ds → Each (Lacks c) (map spaced ds)
pieces_lack c ne f [] w = tt
pieces_lack c ne f (d ∷ ds) w = (done_lacks c ne f d w.0, pieces_lack c ne f ds w.1)

pub calls_lack : (c : ℕ) → eqb 32 c ≡ false → eqb 59 c ≡ false → ((x : List ℕ) → IsWord x → Lacks c x) → (ds : List Done) → Each IsWritable ds → Lacks c (calls_text ds)
calls_lack c ne ne' f ds w = lacks_join c semicolon ne' (map spaced ds) (pieces_lack c ne f ds w)

dones_back : (ds : List Done) → Each IsWritable ds → read_dones (map spaced ds) ≡ Some ds
dones_back [] w = refl
dones_back (d ∷ ds) w = λ i. also (done_back d w.0 i) (dones_back ds w.1 i)

-- text that begins with a space isn't empty
spaced_first : (d : Done) (ds : List Done) → read_calls (join_with_byte semicolon (map spaced (d ∷ ds))) ≡ read_dones (cut_at semicolon (join_with_byte semicolon (map spaced (d ∷ ds))))
spaced_first d [] = refl
spaced_first d (e ∷ es) = refl

pub calls_back : (ds : List Done) → Each IsWritable ds → read_calls (calls_text ds) ≡ Some ds
calls_back [] w = refl
calls_back (d ∷ ds) w = spaced_first d ds ∙ (ap read_dones (cut_join semicolon (spaced d) (map spaced ds) (pieces_lack semicolon refl (λ x f. f.semicolons) (d ∷ ds) w)) ∙ dones_back (d ∷ ds) w)
