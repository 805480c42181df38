-- How a capture grows line by line.
use Rattle.std.proofs.Common.{◌≡◌, ◌≢◌, ℕ, suc, ◌+◌, ◌%◌, List, ◌++◌, sym, ◌∙◌, ap, arith, subst}
use Rattle.capture_generator.specs.Draws.{next_state, given_by}
use Rattle.capture_generator.specs.Packets.{kind_of, line_state, state_behind, datagrams_in, datagrams_before, lines_of, packets_for}
use Rattle.capture_generator.specs.Written.{Holds, Gains}
use Rattle.capture_generator.specs.declared.written.Written.{Written}

one_more : (n : ℕ) → n + 1 ≡ suc n
one_more n = omega arith

add_none : (n : ℕ) → n ≡ n + 0
add_none n = omega arith

adds_one : (kind : ℕ) → kind ≢ 4 → datagrams_in kind ≡ 1
adds_one kind other = grind arith

adds_none : (kind : ℕ) → kind ≡ 4 → datagrams_in kind ≡ 0
adds_none kind same = grind arith

module _ (seed line state drawn number : ℕ)
    (at : state ≡ line_state seed line) (moved : drawn ≡ next_state state) (gave : number ≡ given_by (next_state state)) where
  kind_is : number % 8 ≡ kind_of (line_state seed line)
  kind_is = ap (λ (n : ℕ). n % 8) gave ∙ ap kind_of at

  drawn_is : drawn ≡ next_state (line_state seed line)
  drawn_is = moved ∙ ap next_state at

  pub state_more : (behind : ℕ) → behind ≡ state_behind (number % 8) drawn → behind ≡ line_state seed (line + 1)
  unfolding line_state
  state_more behind is =
      is ∙ ap (λ (k : ℕ). state_behind k drawn) kind_is
      ∙ ap (λ (s : ℕ). state_behind (kind_of (line_state seed line)) s) drawn_is
      ∙ ap (λ (n : ℕ). line_state seed n) (sym (one_more line))

  pub lines_more : (limit datagram : ℕ) (old new : Written) → datagram ≡ datagrams_before seed line → Holds limit old (lines_of seed line) →
      Gains old new (packets_for (number % 8) datagram drawn) → Holds limit new (lines_of seed (line + 1))
  unfolding lines_of
  lines_more limit datagram old new before holds gains =
      subst (λ (l : List (List ℕ)). Holds limit new l)
      (ap (λ (k : ℕ). lines_of seed line ++ packets_for k datagram drawn) kind_is
      ∙ ap (λ (d : ℕ). lines_of seed line ++ packets_for (kind_of (line_state seed line)) d drawn) before
      ∙ ap (λ (s : ℕ). lines_of seed line ++ packets_for (kind_of (line_state seed line)) (datagrams_before seed line) s) drawn_is
      ∙ ap (λ (n : ℕ). lines_of seed n) (sym (one_more line)))
      (gains limit (lines_of seed line) holds)

  pub datagrams_more : (datagram next : ℕ) → datagram ≡ datagrams_before seed line → number % 8 ≢ 4 → next ≡ datagram + 1 → next ≡ datagrams_before seed (line + 1)
  unfolding datagrams_before
  datagrams_more datagram next before other is =
      is ∙ ap (λ (d : ℕ). d + 1) before
      ∙ ap (λ (d : ℕ). datagrams_before seed line + d) (sym (adds_one (kind_of (line_state seed line)) (λ same. other (kind_is ∙ same))))
      ∙ ap (λ (n : ℕ). datagrams_before seed n) (sym (one_more line))

  pub datagrams_same : (datagram next : ℕ) → datagram ≡ datagrams_before seed line → number % 8 ≡ 4 → next ≡ datagram → next ≡ datagrams_before seed (line + 1)
  unfolding datagrams_before
  datagrams_same datagram next before same is =
      is ∙ before ∙ add_none (datagrams_before seed line)
      ∙ ap (λ (d : ℕ). datagrams_before seed line + d) (sym (adds_none (kind_of (line_state seed line)) (sym kind_is ∙ same)))
      ∙ ap (λ (n : ℕ). datagrams_before seed n) (sym (one_more line))
