use Rattle.local_run.proofs.Imports.{Bool, arith, bit, sym, true≢false, value_of, ℕ, ◌*◌, ◌+◌, ◌<◌, ◌∙◌, ◌≡◌}
use Rattle.local_run.proofs.Scans.{block_clear, block_first, row_in_word}
use Rattle.local_run.proofs.values.Values.first_undefined_assignment.Goals as goal

pub returns-then-word-ne0 : goal.returns-then-word-ne0
returns-then-word-ne0 c = λ a l e.
    let f : ℕ → Bool = λ a. value_of c.args.self.now.words c.args.self.now.rows.undefined.items a c.args.gate in
    let bits : (b : ℕ) → b < 64 → bit c.index-word.result.now b ≡ f (64 * c.loop-k.k + b) =
    λ b h. row_in_word c.args.self.now.words c.loop-k.k b c.args.gate c.index-word.result.now _
    c.args.self.now.rows.undefined.items h (omega arith) c.index-word.ensures in
    let d = block_first f c.loop-k.k _ (omega arith) bits c.loop-k.invariant c.if-word-ne0.true in
    true≢false (sym e ∙ d.1 a (omega arith))

pub loop-k-preserved : goal.loop-k-preserved
loop-k-preserved c =
    let f : ℕ → Bool = λ a. value_of c.args.self.now.words c.args.self.now.rows.undefined.items a c.args.gate in
    let bits : (b : ℕ) → b < 64 → bit c.index-word.result.now b ≡ f (64 * c.loop-k.k + b) =
    λ b h. row_in_word c.args.self.now.words c.loop-k.k b c.args.gate c.index-word.result.now _
    c.args.self.now.rows.undefined.items h (omega arith) c.index-word.ensures in
    block_clear f c.loop-k.k _ bits c.loop-k.invariant c.if-word-ne0.false

pub returns-then-a-self : goal.returns-then-a-self
returns-then-a-self c =
    let f : ℕ → Bool = λ a. value_of c.args.self.now.words c.args.self.now.rows.undefined.items a c.args.gate in
    let bits : (b : ℕ) → b < 64 → bit c.index-word.result.now b ≡ f (64 * c.loop-k.k + b) =
    λ b h. row_in_word c.args.self.now.words c.loop-k.k b c.args.gate c.index-word.result.now _
    c.args.self.now.rows.undefined.items h (omega arith) c.index-word.ensures in
    let d = block_first f c.loop-k.k _ (omega arith) bits c.loop-k.invariant c.if-word-ne0.true in
    (c.if-a-self.true, d.0, λ b l e. true≢false (sym e ∙ d.1 b l))
