-- One piece more: of a file that is read, and of bytes that are written.
use Rattle.std.proofs.Common.{◌≡◌, ℕ, ◌+◌, ◌≤◌, List, [], ◌∷◌, ◌++◌, length, take, drop, Option, Some, refl, sym, ◌∙◌, ap, subst, arith, append_assoc, take-append-drop, length-append, length-take}
use Rattle.std.proofs.Math.Seq.{take-add}
use Rattle.std.proofs.lemmas.List.{take_all, append-nil}
use Rattle.byte_ends.specs.Told.{IsPieceAt, Grows, GrowsByPrefix}

-- the list is the first bytes of the file
pub record IsFront (front file : List ℕ) : Type 0 where
  pub size : length front ≤ length file
  pub same : front ≡ take (length front) file

pub IsFront-none : (file : List ℕ) → IsFront [] file
IsFront-none file = record { size = omega arith; same = refl }

pub IsFront-more : (front more file buffer : List ℕ) (at n : ℕ) → IsFront front file → IsPieceAt file at n buffer → n ≤ length buffer → at ≡ length front → more ≡ front ++ take n buffer → IsFront more file
IsFront-more front more file buffer at n before piece room place is =
    let size : length more ≡ at + n = omega (arith, ap (length {A = ℕ}) is, length-append front (take n buffer), length-take n buffer) in
    record {
      size = omega (arith, before.size, piece.within, size);
      same = is ∙ sym (ap (λ (k : ℕ). take k file) size ∙ take-add at n file
          ∙ ap (λ (l : List ℕ). l ++ take n (drop at file)) (ap (λ (k : ℕ). take k file) place ∙ sym before.same)
          ∙ ap (λ (l : List ℕ). front ++ l) (sym piece.same));
    }

pub IsFront-all : (front file : List ℕ) → IsFront front file → length file ≤ length front → front ≡ file
IsFront-all front file before end = before.same ∙ take_all (length front) file end

-- what was sent of a piece, where this is left of it
pub record Sends (before now : Option (List ℕ)) (piece rest : List ℕ) : Type 0 where
  pub sent : List ℕ
  pub split : sent ++ rest ≡ piece
  pub grows : Grows before now sent

pub Sends-none : (now : Option (List ℕ)) (piece : List ℕ) → Sends now now piece piece
Sends-none now piece = record { sent = []; split = refl; grows = λ bytes told. told ∙ ap Some (sym (append-nil bytes)) }

pub Sends-more : (before mid now : Option (List ℕ)) (piece rest : List ℕ) (n : ℕ) → Sends before mid piece rest → Grows mid now (take n rest) → Sends before now piece (drop n rest)
Sends-more before mid now piece rest n first grows = record {
  sent = first.sent ++ take n rest;
  split = append_assoc first.sent (take n rest) (drop n rest) ∙ ap (λ (l : List ℕ). first.sent ++ l) (take-append-drop n rest) ∙ first.split;
  grows = λ bytes told. grows (bytes ++ first.sent) (first.grows bytes told) ∙ ap Some (append_assoc bytes first.sent (take n rest));
}

pub Sends-all : (before now : Option (List ℕ)) (piece rest : List ℕ) → Sends before now piece rest → length rest ≡ 0 → Grows before now piece
Sends-all before now piece [] all none =
    let whole : all.sent ≡ piece = sym (append-nil all.sent) ∙ all.split in
    subst (λ (l : List ℕ). Grows before now l) whole all.grows
Sends-all before now piece (x ∷ rest) all none = absurd (omega arith)

pub Sends-prefix : (before now after : Option (List ℕ)) (piece rest : List ℕ) → Sends before now piece rest → after ≡ now → GrowsByPrefix before after piece
Sends-prefix before now after piece rest some same = record { sent = some.sent; unsent = rest; split = some.split; grows = λ bytes told. same ∙ some.grows bytes told }
