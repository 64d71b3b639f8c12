-- The line forms of the certificate section: the meaning of the words of a line
use Rattle.std.specs.Prelude.{ℕ, List, length, codes, Option, Some, None, ◌==◌, if◌then◌else◌}
use Rattle.section_text.specs.Words.{number_at, name_at, is_word_at, if_one_word, number_after_keyword}
use Rattle.section_text.specs.Words.{name_after_keyword, ◌>>=◌}
use Rattle.section_text.specs.declared.section.Form.{Form}
use Rattle.section_text.specs.declared.section.Form.TheVariants.{Header, Item, End}
use Rattle.pattern.specs.Forms.{box_of, cell_of_words_from}
use Rattle.certificate_lines.specs.declared.certificate_line.CertificateLine.{CertificateLine}
use Rattle.certificate_lines.specs.declared.certificate_line.CertificateLine.TheVariants.{Module, Cut, Use, Keep, Edge}
use Rattle.certificate_lines.specs.declared.certificate_line.CertificateLine.TheVariants.{Halo, Stop}
use Rattle.certificate_lines.specs.declared.certificate_line.BorderLine.{BorderLine}
use Rattle.certificate_lines.specs.declared.certificate_line.StopLine.{StopLine}

-- the header is its version
abbrev pub CertificateForm : Type 0
CertificateForm = Form ℕ CertificateLine

-- `*`, or a time
unfoldable pub star_or_time_at_word : List (List ℕ) → ℕ → Option (Option ℕ)
star_or_time_at_word ws i = if is_word_at ws i (codes "*") then Some None else (number_at ws i >>= λ t. Some (Some t))

-- `1`, or a name
unfoldable pub one_or_name_at_word : List (List ℕ) → ℕ → Option (Option (List ℕ))
one_or_name_at_word ws i = if is_word_at ws i (codes "1") then Some None else (name_at ws i >>= λ n. Some (Some n))

-- a keyword, a time, a cell and a signal
unfoldable pub border_of_five_words : List (List ℕ) → Option BorderLine
border_of_five_words ws = do
  t ← star_or_time_at_word ws 1
  c ← cell_of_words_from ws 2
  s ← one_or_name_at_word ws 4
  Some (record { time = t; cell = c; signal = s })

-- the content of an edge or halo line
unfoldable pub border_of : List (List ℕ) → Option BorderLine
border_of ws = if length ws == 5 then border_of_five_words ws else None

-- a keyword, a number, a name and a cell
unfoldable pub stop_of_five_words : List (List ℕ) → Option StopLine
stop_of_five_words ws = do
  t ← number_at ws 1
  n ← name_at ws 2
  c ← cell_of_words_from ws 3
  Some (record { time = t; wire = n; cell = c })

-- the content of a stop line
unfoldable pub stop_of : List (List ℕ) → Option StopLine
stop_of ws = if length ws == 5 then stop_of_five_words ws else None

-- the form of a line by its words, if it has one
unfoldable pub form_of : List (List ℕ) → Option CertificateForm
form_of ws =
    if is_word_at ws 0 (codes "edge") then (border_of ws >>= λ e. Some (Item (Edge e)))
    else if is_word_at ws 0 (codes "halo") then (border_of ws >>= λ e. Some (Item (Halo e)))
    else if is_word_at ws 0 (codes "stop") then (stop_of ws >>= λ s. Some (Item (Stop s)))
    else if is_word_at ws 0 (codes "cut") then (name_after_keyword ws >>= λ n. Some (Item (Cut n)))
    else if is_word_at ws 0 (codes "use") then (number_after_keyword ws >>= λ k. Some (Item (Use k)))
    else if is_word_at ws 0 (codes "keep") then (number_after_keyword ws >>= λ k. Some (Item (Keep k)))
    else if is_word_at ws 0 (codes "module") then (box_of ws >>= λ b. Some (Item (Module b)))
    else if is_word_at ws 0 (codes "certificate") then (number_after_keyword ws >>= λ v. Some (Header v))
    else if is_word_at ws 0 (codes "end") then if_one_word ws End
    else None

-- the line that words mean which are not five, and which begin with no word of a line about a cell
unfoldable pub form_of_not_five_words : List (List ℕ) → Option CertificateForm
form_of_not_five_words ws =
    if is_word_at ws 0 (codes "cut") then (name_after_keyword ws >>= λ n. Some (Item (Cut n)))
    else if is_word_at ws 0 (codes "use") then (number_after_keyword ws >>= λ k. Some (Item (Use k)))
    else if is_word_at ws 0 (codes "keep") then (number_after_keyword ws >>= λ k. Some (Item (Keep k)))
    else if is_word_at ws 0 (codes "certificate") then (number_after_keyword ws >>= λ v. Some (Header v))
    else if is_word_at ws 0 (codes "end") then if_one_word ws End
    else None
