-- The section is read for the builder's circuit and layout.
use Rattle.certificate.proofs.reading.read_certificate_within.Given as goal

abbrev pub ghosts-read_lines : goal.ghosts-read_lines
ghosts-read_lines a = record { setting = a.builder.setting }
