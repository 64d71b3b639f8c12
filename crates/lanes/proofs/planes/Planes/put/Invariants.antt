use Rattle.lanes.proofs.Imports.{ChangesOnlyDiagonals, HasWordsStrideRows, Odd, bit, block_at, lane, not, ℕ, ◌*◌, ◌+◌}
use Rattle.lanes.proofs.Imports.{◌/◌, ◌<◌, ◌≡◌}
use Rattle.lanes.specs.Turns.{is_on_main_diagonal}
use Rattle.lanes.specs.Lanes.{word_of_source}
use Rattle.lanes.proofs.planes.Planes.put.Given as goal

abbrev pub invariant-loop-k : goal.invariant-loop-k
invariant-loop-k l = record {
  size : HasWordsStrideRows l.fn.self.words l.fn.self.stride l.fn.self.rows l.self;
  there : (k b : ℕ) → k < l.k → b < 64 → lane l.self (64 * k + b) l.x l.y ≡ bit (word_of_source l.list l.source k) b;
  rest : (a x' y' : ℕ) → a < 64 * l.fn.self.words → x' / 2 < l.fn.self.stride → ((x' ≡ l.x) × (y' ≡ l.y) → ⊥) →
      lane l.self a x' y' ≡ lane l.fn.self a x' y';
  cells : ChangesOnlyDiagonals (is_on_main_diagonal l.x l.y)
      (not (is_on_main_diagonal l.x l.y)) (block_at Odd l.fn.self.stride
      (l.fn.self.stride * (l.y / 2) + l.x / 2)) l.fn.self l.self;
  zero : l.union ≡ 0 → (k : ℕ) → k < l.k → word_of_source l.list l.source k ≡ 0;
}
