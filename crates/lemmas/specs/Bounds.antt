-- The largest sizes that the program takes: the limits of a text that begins with the line `limits 2`. A limit that
-- goes up goes up here, and in the constants of the crate `section_text`.
use Rattle.std.specs.Prelude.{ℕ}

-- the largest width and height of a layout, in cells
abbrev pub max_side : ℕ
max_side = 4096

-- the largest column or row of a cell in a layout
abbrev pub last_column_or_row : ℕ
last_column_or_row = 4095

-- the most words of 64 cells in a row of a grid, which has a margin of one cell on each side
abbrev pub max_words_in_row : ℕ
max_words_in_row = 65

-- the most blocks of two by two cells beside each other in a layout
abbrev pub max_blocks_in_row : ℕ
max_blocks_in_row = 2048

-- the most blocks of two by two cells in a layout
abbrev pub max_blocks_in_layout : ℕ
max_blocks_in_layout = 4194304

-- the farthest that a cell near the layout is moved, in cells
abbrev pub max_cell_shift : ℕ
max_cell_shift = 8191

-- the most steps of a layout
abbrev pub max_steps : ℕ
max_steps = 1048576

-- the most wires of a circuit
abbrev pub max_wires : ℕ
max_wires = 65000

-- the most gates of a circuit, sources among them
abbrev pub max_gates : ℕ
max_gates = 16384

-- the most modules of a certificate
abbrev pub max_modules : ℕ
max_modules = 65536

-- the most numbers that workers draw: those of all modules, and one past the last by each of 64 workers
abbrev pub max_draws : ℕ
max_draws = 65600

-- the most bytes of a text
abbrev pub max_text : ℕ
max_text = 268435456
