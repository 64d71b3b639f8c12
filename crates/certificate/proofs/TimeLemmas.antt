-- Tables of times, line by line, and the lines of gates one after the other.
use Rattle.certificate.proofs.Imports.{AreFaultless, CertificateLine, Circuit, Gate, IsFaultless, IsStopTimeTable, List}
use Rattle.certificate.proofs.Imports.{Module, ModuleLines, Option, Setting, Some, StopLine, StoredModule, StoredStop}
use Rattle.certificate.proofs.Imports.{TimeLine, [], all_stops, ap, append_assoc, arith, body_lines}
use Rattle.certificate.proofs.Imports.{certificate_grammar, common_steps, delay_and_meet_lines, drop, drop_all}
use Rattle.certificate.proofs.Imports.{entry_fault, false, flat_map, get_or, is_module_line, last_of, length}
use Rattle.certificate.proofs.Imports.{lines_of_numbered_gates, map, map-append, module_lines, modules_of, refl}
use Rattle.certificate.proofs.Imports.{same_Some, slice_get, slice_get-get_or, slice_get_within, split_module}
use Rattle.certificate.proofs.Imports.{split_other, stop_in, stop_line, stops, sym, take, take_more, time_in_table}
use Rattle.certificate.proofs.Imports.{time_lines_of_gates, ℕ, ◌++◌, ◌+◌, ◌<◌, ◌∙◌, ◌∷◌, ◌≡◌, ◌≤◌}
use Rattle.std.proofs.lemmas.List.Folds.{flat_map-map}
use Rattle.section_text.specs.declared.limits.Limits.{Limits}
use Rattle.certificate.proofs.Soundness.{passed_line}
use Rattle.certificate_lines.proofs.FlatParts.{flat_more}
use Rattle.certificate_lines.proofs.StoredLemmas.{stops_with}
use Rattle.certificate.specs.SeenTimes.{seen_time}
use Rattle.certificate.specs.declared.times.FirstOrLast.{FirstOrLast}
use Rattle.certificate.specs.declared.times.FirstOrLast.TheVariants.{First, Last}
use Rattle.certificate_lines.proofs.ModuleSplit.{inner_module, inner_other}

-- ---- the stops of all lines from the first module line on are those of all modules

abbrev Splits : List CertificateLine → Type 0
Splits es = flat_map stop_in es ≡ flat_map stop_in (body_lines es) ++ all_stops (modules_of es)

splits_other : (e : CertificateLine) (es : List CertificateLine) → is_module_line e ≡ false → Splits es →
    Splits (e ∷ es)
splits_other e es o h = grind (arith, common_steps, inner_other, split_other)

splits_step : (e : CertificateLine) (es : List CertificateLine) → Splits es → Splits (e ∷ es)
splits_step (Module b) es h = grind (arith, common_steps, split_module, inner_module)
splits_step i es h = splits_other i es refl h

splits_none : Splits []
unfolding body_lines modules_of
splits_none = refl

splits : (es : List CertificateLine) → Splits es
splits [] = splits_none
splits (e ∷ es) = splits_step e es (splits es)

-- and where the lines were read, they are those of all lines: the first is a module line
starts_with_module : (l : Limits) (g : Setting) (v : ℕ) (es : List CertificateLine) →
    AreFaultless (certificate_grammar l g) v [] es → body_lines es ≡ []
unfolding body_lines entry_fault modules_of last_of
starts_with_module l g v [] good = refl
starts_with_module l g v (Module b ∷ es) good = refl
starts_with_module l g v (i ∷ es) good = absurd (let first = (passed_line l g v [] i good.0).1 in cc)

pub all_in_modules : (l : Limits) (g : Setting) (v : ℕ) (es : List CertificateLine) →
    IsFaultless (certificate_grammar l g) v es → all_stops (modules_of es) ≡ flat_map stop_in es
all_in_modules l g v es good = grind (arith, common_steps, splits, starts_with_module)

-- ---- the lines of gates, one after the other

numbered_step : (f : ℕ → Gate → List TimeLine) (n : ℕ) (gates : List Gate) (g : Gate) → slice_get gates n ≡ Some g →
    lines_of_numbered_gates f n (drop n gates) ≡ f n g ++ lines_of_numbered_gates f (n + 1) (drop (n + 1) gates)
unfolding lines_of_numbered_gates
numbered_step f n gates g at =
    let inside : n < length gates = slice_get_within gates n g at in
    let here : get_or gates n g ≡ g = same_Some _ _ (sym (slice_get-get_or gates n g inside) ∙ at) in
    grind (arith, common_steps)

pub one_gate_more : (f : ℕ → Gate → List TimeLine) (all lines more : List TimeLine) (n : ℕ) (gates : List Gate)
    (g : Gate) → slice_get gates n ≡ Some g → more ≡ lines ++ f n g →
    lines ++ lines_of_numbered_gates f n (drop n gates) ≡ all →
    more ++ lines_of_numbered_gates f (n + 1) (drop (n + 1) gates) ≡ all
one_gate_more f all lines more n gates g at grown so_far = grind (arith, common_steps, numbered_step)

numbered_none : (f : ℕ → Gate → List TimeLine) (n : ℕ) → lines_of_numbered_gates f n [] ≡ []
unfolding lines_of_numbered_gates
numbered_none f n = refl

pub all_gates : (f : ℕ → Gate → List TimeLine) (all lines : List TimeLine) (n : ℕ) (gates : List Gate) →
    length gates ≤ n → lines ++ lines_of_numbered_gates f n (drop n gates) ≡ all → lines ≡ all
all_gates f all lines n gates past so_far = grind (arith, common_steps, drop_all, numbered_none)

-- ---- tables

told : (choice : FirstOrLast) (c : Circuit) (ss all : List StopLine) (table items : List (Option ℕ)) → table ≡ items →
    ss ≡ all → IsStopTimeTable choice c ss items → time_in_table table ≡ seen_time choice c all
told choice c ss all table items e s h i =
    λ w. (ap (λ t. time_in_table t w) e ∙ h w ∙ ap (λ r. seen_time choice c r w) s) i

pub lines_told : (c : Circuit) (ms : List ModuleLines) (ss : List StopLine) (firsts lasts f l : List (Option ℕ)) →
    f ≡ firsts → l ≡ lasts → ss ≡ all_stops ms → IsStopTimeTable First c ss firsts → IsStopTimeTable Last c ss lasts →
    time_lines_of_gates (time_in_table f) (time_in_table l) c.netlist.gates ≡ delay_and_meet_lines c ms
lines_told c ms ss firsts lasts f l ef el es hf hl i =
    time_lines_of_gates (told First c ss (all_stops ms) f firsts ef es hf i)
    (told Last c ss (all_stops ms) l lasts el es hl i) c.netlist.gates

-- ---- stops as they are kept

-- the stops of one module more
pub stops_more : (c : Circuit) (ms : List StoredModule) (i : ℕ) (m : StoredModule) → i < length ms → m ≡ get_or ms i m →
    all_stops (map (module_lines c) (take (i + 1) ms))
    ≡ all_stops (map (module_lines c) (take i ms)) ++ map (stop_line c) m.stops.items
stops_more c ms i m lt is = grind (arith, common_steps, flat_map-map, flat_more, stops_with)

pub stop_more : (c : Circuit) (ss : List StopLine) (stops : List StoredStop) (i : ℕ) (s : StoredStop) →
    i < length stops → s ≡ get_or stops i s →
    (ss ++ map (stop_line c) (take i stops)) ++ stop_line c s ∷ [] ≡ ss ++ map (stop_line c) (take (i + 1) stops)
stop_more c ss stops i s lt is = grind (arith, common_steps, take_more, map-append, append_assoc)
