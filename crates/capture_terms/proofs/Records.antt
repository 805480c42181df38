-- Records one behind the other are the same, whoever reads them.
use Rattle.std.proofs.Common.{◌≡◌, ℕ, ◌+◌, ◌<◌, ◌≤◌, ◌⊎◌, inl, inr, List, [], ◌∷◌, length, refl, sym, ◌∙◌, ap, subst, arith}
use Rattle.std.specs.Prelude.{All}
use Rattle.std.proofs.lemmas.List.Elements.{All-nil, All-cons}
use Rattle.capture_terms.specs.Capture.{captured_length, IsRecord, AreRecords, IsLongRecord, IsCutRecord, IsTail, IsWithin, Says, Contents}
use Rattle.capture_terms.specs.declared.capture.Endianness.{Endianness}
use Rattle.capture_terms.specs.declared.capture.Frame.{Frame}

-- no whole record stands at a place
abbrev pub HasNoRecord : Endianness → List ℕ → ℕ → Type 0
HasNoRecord order bytes at = (frame : Frame) → IsRecord order bytes at frame → ⊥

pub tail_has_none : (order : Endianness) (bytes : List ℕ) (at torn : ℕ) → IsTail order bytes at torn → HasNoRecord order bytes at
tail_has_none order bytes at torn tail frame here = by_end tail.cut
  where
    size : frame.length ≡ captured_length order bytes at
    size = ap (λ (f : Frame). f.length) here.fields

    by_end : (torn < 16) ⊎ IsCutRecord order bytes at torn → ⊥
    by_end (inl short) = omega (arith, tail.left, here.header)
    by_end (inr cut) = omega (arith, size, tail.left, cut.cut, here.whole)

pub long_has_none : (order : Endianness) (bytes : List ℕ) (at : ℕ) → IsLongRecord order bytes at → HasNoRecord order bytes at
long_has_none order bytes at long frame here =
    let size : frame.length ≡ captured_length order bytes at = ap (λ (f : Frame). f.length) here.fields in
    omega (arith, size, long.long, here.short)

pub tail_not_long : (order : Endianness) (bytes : List ℕ) (at torn : ℕ) → IsTail order bytes at torn → IsLongRecord order bytes at → ⊥
tail_not_long order bytes at torn tail long = by_end tail.cut
  where
    by_end : (torn < 16) ⊎ IsCutRecord order bytes at torn → ⊥
    by_end (inl short) = omega (arith, tail.left, long.header)
    by_end (inr cut) = omega (arith, cut.short, long.long)

same_record : (order : Endianness) (bytes : List ℕ) (at : ℕ) (f g : Frame) → IsRecord order bytes at f → IsRecord order bytes at g → g ≡ f
same_record order bytes at f g one two = two.fields ∙ sym one.fields

-- the rest of other records behind the same first frame
other_rest : (order : Endianness) (bytes : List ℕ) (at : ℕ) (f g : Frame) (gs : List Frame) (end : ℕ) → g ≡ f → AreRecords order bytes (at + 16 + g.length) gs end → AreRecords order bytes (at + 16 + f.length) gs end
other_rest order bytes at f g gs end same rest = subst (λ (h : Frame). AreRecords order bytes (at + 16 + h.length) gs end) same rest

-- records that go on as far as they can are the same, and end at the same place
pub same_records : (order : Endianness) (bytes : List ℕ) (at : ℕ) (fs gs : List Frame) (here there : ℕ) → AreRecords order bytes at fs here → HasNoRecord order bytes here → AreRecords order bytes at gs there → HasNoRecord order bytes there → (fs ≡ gs) × (here ≡ there)
same_records order bytes at [] [] here there one stop two stop' = (refl, sym one ∙ two)
same_records order bytes at [] (g ∷ gs) here there one stop two stop' = absurd (stop g (subst (λ (k : ℕ). IsRecord order bytes k g) one two.0))
same_records order bytes at (f ∷ fs) [] here there one stop two stop' = absurd (stop' f (subst (λ (k : ℕ). IsRecord order bytes k f) two one.0))
same_records order bytes at (f ∷ fs) (g ∷ gs) here there one stop two stop' =
    let same : g ≡ f = same_record order bytes at f g one.0 two.0 in
    let rest = same_records order bytes (at + 16 + f.length) fs gs here there one.1 stop (other_rest order bytes at f g gs there same two.1) stop' in
    (ap (λ (h : Frame). h ∷ fs) (sym same) ∙ ap (λ (l : List Frame). g ∷ l) rest.0, rest.1)

-- records that go on as far as they can are more than others behind which one more stands
pub no_more_records : (order : Endianness) (bytes : List ℕ) (at : ℕ) (fs gs : List Frame) (here there : ℕ) (next : Frame) → AreRecords order bytes at fs here → HasNoRecord order bytes here → AreRecords order bytes at gs there → IsRecord order bytes there next → length fs ≤ length gs → ⊥
no_more_records order bytes at [] [] here there next one stop two more fewer = stop next (subst (λ (k : ℕ). IsRecord order bytes k next) (sym two ∙ one) more)
no_more_records order bytes at [] (g ∷ gs) here there next one stop two more fewer = stop g (subst (λ (k : ℕ). IsRecord order bytes k g) one two.0)
no_more_records order bytes at (f ∷ fs) [] here there next one stop two more fewer = omega arith
no_more_records order bytes at (f ∷ fs) (g ∷ gs) here there next one stop two more fewer =
    let same : g ≡ f = same_record order bytes at f g one.0 two.0 in
    no_more_records order bytes (at + 16 + f.length) fs gs here there next one.1 stop (other_rest order bytes at f g gs there same two.1) more (omega arith)

records_within : (order : Endianness) (bytes : List ℕ) (at : ℕ) (frames : List Frame) (end : ℕ) → AreRecords order bytes at frames end → All (IsWithin bytes) frames
records_within order bytes at [] end all = All-nil (IsWithin bytes)
records_within order bytes at (f ∷ frames) end all =
    let here : IsWithin bytes f = omega (arith, all.0.whole, ap (λ (g : Frame). g.at) all.0.fields) in
    All-cons (IsWithin bytes) f frames here (records_within order bytes (at + 16 + f.length) frames end all.1)

-- the bytes of each frame of a capture lie in the file
pub frames_within : (bytes : List ℕ) (contents : Contents) → Says bytes contents → All (IsWithin bytes) contents.frames
frames_within bytes contents says = records_within says.order bytes 24 contents.frames says.end says.before.records
