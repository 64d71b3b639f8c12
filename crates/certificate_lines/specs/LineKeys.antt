-- The keys by which the lines of a module are in order
use Rattle.std.specs.Prelude.{Option, Some, None}
use Rattle.certificate_lines.specs.Orders.{cell_of, default_cell, sort_number_of, rank_of}
use Rattle.certificate_lines.specs.declared.certificate_line.CertificateLine.{CertificateLine}
use Rattle.certificate_lines.specs.declared.order.LineKey.{LineKey}

-- the key of a line
abbrev pub key_of : CertificateLine → LineKey
key_of i = record { rank = rank_of i; number = sort_number_of i; cell = cell_of i }

-- the key of a line, and that of a `module` line if there is none
abbrev pub key_or_first : Option CertificateLine → LineKey
key_or_first None = record { rank = 0; number = 0; cell = default_cell }
key_or_first (Some i) = key_of i
