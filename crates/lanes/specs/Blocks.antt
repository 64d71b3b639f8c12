-- The blocks of both partitions, by the numbers of their cells in four planes
use Rattle.std.specs.Prelude.{◌≡◌, ◌≢◌, Bool, true, false, ℕ, ◌+◌, ◌-◌, ◌*◌, ◌%◌, ◌<◌, List}
use Rattle.lanes.specs.declared.block_marks.BlockMarks.{BlockMarks}
use Rattle.lanes.specs.declared.blocks.BlockPlaces.{BlockPlaces}
use Rattle.lanes.specs.declared.blocks.Diagonal.{Diagonal}
use Rattle.lanes.specs.declared.blocks.Diagonal.TheVariants.{Anti, Main}
use Rattle.lanes.specs.declared.blocks.Partition.{Partition}
use Rattle.lanes.specs.declared.blocks.Partition.TheVariants.{Even, Odd}
use Rattle.lanes.specs.declared.planes.Planes.{Planes}

-- whether the diagonal is the main one
abbrev pub is_main_diagonal : Diagonal → Bool
is_main_diagonal Main = true
is_main_diagonal Anti = false

-- The numbers of the cells of block n, where a row of a plane has s cells. Block n of the odd partition has the cells
-- with this number, and block n of the even partition begins with cell n of the plane even
abbrev pub block_at : Partition → ℕ → ℕ → BlockPlaces
block_at Odd s n = record { odd = n; right = n; down = n; even = n }
block_at Even s n = record { odd = n + s + 1; right = n + s; down = n + 1; even = n }

-- the other partition
abbrev pub other_partition : Partition → Partition
other_partition Odd = Even
other_partition Even = Odd

-- the marks on the blocks of a partition
abbrev pub marks_of : Partition → BlockMarks → List ℕ
marks_of Odd m = m.odd.items
marks_of Even m = m.even.items

-- how many numbers the blocks of a partition have
abbrev pub block_number_count : Partition → Planes → ℕ
block_number_count Odd p = p.stride * p.rows
block_number_count Even p = p.stride * p.rows - p.stride - 1

-- The number is not that of the last block of a row of the even partition. The cells of that one are in the halo, at
-- the right end of two rows and at the left end of the next two
abbrev pub IsNotRowEndBlock : Partition → ℕ → ℕ → Type 0
IsNotRowEndBlock part s n = part ≡ Even → (n + 1) % s ≢ 0

-- the number is that of a block that a step turns
abbrev pub IsNumberOfBlock : Partition → Planes → ℕ → Type 0
IsNumberOfBlock part p n = (n < block_number_count part p) × IsNotRowEndBlock part p.stride n

-- the planes have cells with these numbers
abbrev pub AreCellNumbers : BlockPlaces → Planes → Type 0
AreCellNumbers b p = (b.odd < p.stride * p.rows) × (b.right < p.stride * p.rows) × (b.down < p.stride * p.rows)
    × (b.even < p.stride * p.rows)

-- two blocks have no cell in common that is on a diagonal that changes
abbrev pub ShareNoChangingCell : Bool → Bool → BlockPlaces → BlockPlaces → Type 0
ShareNoChangingCell main anti b c =
    (main ≡ true → (b.odd ≢ c.odd) × (b.even ≢ c.even)) × (anti ≡ true → (b.right ≢ c.right) × (b.down ≢ c.down))
