use Rattle.local_run.proofs.Imports.{Bool, arith, bit, bit_and, bit_xor, ℕ, ◌*◌, ◌+◌, ◌<◌, ◌≡◌}
use Rattle.local_run.proofs.Scans.{block_clear, block_first, difference_small, differs, differs_bits, differs_is}
use Rattle.local_run.proofs.Scans.{differs_not}
use Rattle.local_run.proofs.values.Values.seek_difference_where_defined.Goals as goal

pub returns-then-difference-ne0 : goal.returns-then-difference-ne0
returns-then-difference-ne0 c = λ a l.
    let f : ℕ → Bool = differs c.args.self.now c.args.planes.now c.args.x c.args.y c.args.signal in
    let bits : (b : ℕ) → b < 64 →
    bit (bit_and (bit_xor c.word-cells.result c.word-wanted.result) c.index.result.now) b ≡ f (64 * c.loop-k.k + b) =
    differs_bits c.args.self.now c.args.planes.now c.args.x c.args.y c.loop-k.k c.args.signal c.word-cells.result
    c.word-wanted.result c.index.result.now _ c.word-cells.ensures c.word-wanted.ensures
    (omega arith) c.index.ensures in
    let d = block_first f c.loop-k.k _
    (difference_small c.word-cells.result c.word-wanted.result c.index.result.now (omega arith) (omega arith)
    (omega arith)) bits c.loop-k.invariant c.if-difference-ne0.true in
    differs_not c.args.self.now c.args.planes.now c.args.x c.args.y c.args.signal a (d.1 a (omega arith))

pub loop-k-preserved : goal.loop-k-preserved
loop-k-preserved c =
    let f : ℕ → Bool = differs c.args.self.now c.args.planes.now c.args.x c.args.y c.args.signal in
    let bits : (b : ℕ) → b < 64 →
    bit (bit_and (bit_xor c.word-cells.result c.word-wanted.result) c.index.result.now) b ≡ f (64 * c.loop-k.k + b) =
    differs_bits c.args.self.now c.args.planes.now c.args.x c.args.y c.loop-k.k c.args.signal c.word-cells.result
    c.word-wanted.result c.index.result.now _ c.word-cells.ensures c.word-wanted.ensures
    (omega arith) c.index.ensures in
    block_clear f c.loop-k.k _ bits c.loop-k.invariant c.if-difference-ne0.false

pub returns-then-a-self : goal.returns-then-a-self
returns-then-a-self c =
    let f : ℕ → Bool = differs c.args.self.now c.args.planes.now c.args.x c.args.y c.args.signal in
    let bits : (b : ℕ) → b < 64 →
    bit (bit_and (bit_xor c.word-cells.result c.word-wanted.result) c.index.result.now) b ≡ f (64 * c.loop-k.k + b) =
    differs_bits c.args.self.now c.args.planes.now c.args.x c.args.y c.loop-k.k c.args.signal c.word-cells.result
    c.word-wanted.result c.index.result.now _ c.word-cells.ensures c.word-wanted.ensures
    (omega arith) c.index.ensures in
    let d = block_first f c.loop-k.k _
    (difference_small c.word-cells.result c.word-wanted.result c.index.result.now (omega arith) (omega arith)
    (omega arith)) bits c.loop-k.invariant c.if-difference-ne0.true in (
      c.if-a-self.true,
      differs_is c.args.self.now c.args.planes.now c.args.x c.args.y c.args.signal _ d.0,
      λ b l. differs_not c.args.self.now c.args.planes.now c.args.x c.args.y c.args.signal b (d.1 b l),
    )
