use Rattle.std.proofs.Common.{◌≡◌, ◌+◌, ◌%◌, ⊎_elim, ℕ, inr, ap, sym, ◌∙◌, add-one}
use Rattle.nvm_model.specs.Turn.{word_at, word_state}
use Rattle.rand_xoshiro.specs.SplitMix64.{mix_u64}
use Rattle.turns.proofs.NextPieceLaws.{picked}
use Rattle.session.proofs.order.Order.pick_at.Goals as goal

pub returns-clause-at : goal.returns-clause-at
returns-clause-at c = λ n words. ⊎_elim (λ whole. absurd (c.if-self-eq0.false whole))
    (λ at.
    let mix = c.args.self.now.mix in
    let word : c.next_word.result ≡ word_at mix n = ap (λ (p : ℕ × ℕ). p.0) c.next_word.ensures ∙ ap (λ (x : ℕ). (mix_u64 x).0) at in
    let state : c.next_word.new.self ≡ word_state mix (n + 1) =
    ap (λ (p : ℕ × ℕ). p.1) c.next_word.ensures ∙ ap (λ (x : ℕ). (mix_u64 x).1) at ∙ ap (λ (m : ℕ). word_state mix m) (sym (add-one n)) in
    (ap (λ (w : ℕ). w % c.args.count) word ∙ sym (picked mix n c.args.count c.if-self-eq0.false), inr state)) words
