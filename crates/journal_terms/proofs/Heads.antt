-- A line of words, a colon and calls: where it is cut, and which bytes it lacks.
use Rattle.std.proofs.Common.{◌≡◌, ℕ, false, eqb, List, [], ◌∷◌, ◌++◌, refl, ap, ◌∙◌}
use Rattle.std.specs.List.{join_with_byte}
use Rattle.std.proofs.lemmas.List.Elements.{All-cons, All-append}
use Rattle.serial_terms.specs.declared.call.Done.{Done}
use Rattle.serial_terms.specs.Entries.{Each}
use Rattle.journal_terms.specs.Text.{space, line_feed, colon, calls_text}
use Rattle.journal_terms.specs.Reading.{cut_at}
use Rattle.journal_terms.specs.Laws.{IsWritable}
use Rattle.journal_terms.proofs.Cutting.{Lacks, cut_first, cut_last, cut_join, lacks_join}
use Rattle.journal_terms.proofs.Words.{IsWord}
use Rattle.journal_terms.proofs.Calls.{calls_lack, each_map}

module _ (w : List ℕ) (ws : List (List ℕ)) (words : Each IsWord (w ∷ ws)) where
  abbrev head : List ℕ
  head = join_with_byte space (w ∷ ws)

  head_lacks : (c : ℕ) → eqb 32 c ≡ false → ((x : List ℕ) → IsWord x → Lacks c x) → Lacks c (join_with_byte space (w ∷ ws))
  head_lacks c ne f = lacks_join c space ne (w ∷ ws) (each_map IsWord (Lacks c) f (w ∷ ws) words)

  pub head_words : cut_at space (join_with_byte space (w ∷ ws)) ≡ w ∷ ws
  head_words = cut_join space w ws (each_map IsWord (Lacks space) (λ x f. f.spaces) (w ∷ ws) words)

  pub head_feeds : Lacks line_feed (join_with_byte space (w ∷ ws))
  head_feeds = head_lacks line_feed refl (λ x f. f.feeds)

  module _ (ds : List Done) (writable : Each IsWritable ds) where
    pub line_cut : cut_at colon (join_with_byte space (w ∷ ws) ++ colon ∷ calls_text ds) ≡ join_with_byte space (w ∷ ws) ∷ calls_text ds ∷ []
    line_cut = cut_first colon head (calls_text ds) (head_lacks colon refl (λ x f. f.colons))
        ∙ ap (λ (z : List (List ℕ)). head ∷ z) (cut_last colon (calls_text ds) (calls_lack colon refl refl (λ x f. f.colons) ds writable))

    pub line_feeds : Lacks line_feed (join_with_byte space (w ∷ ws) ++ colon ∷ calls_text ds)
    line_feeds = All-append (λ x. eqb x line_feed ≡ false) head (colon ∷ calls_text ds) head_feeds
        (All-cons (λ x. eqb x line_feed ≡ false) colon (calls_text ds) refl (calls_lack line_feed refl refl (λ x f. f.feeds) ds writable))
