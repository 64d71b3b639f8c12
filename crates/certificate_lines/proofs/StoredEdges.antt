-- The edge lines of stored modules, and the wires that neighbours lack of them
use Rattle.certificate_lines.proofs.Imports.{All, AreGoodModulesSoFar, AreLinesInBox, Bool, BorderLine, Circuit, IsTrue}
use Rattle.certificate_lines.proofs.Imports.{List, Setting, [], ap, arith, common_steps, does_neighbour_lack_wire}
use Rattle.certificate_lines.proofs.Imports.{edges, flat_map, get_or, in_box, lacks_wire_of_some_edge, length, list_any}
use Rattle.certificate_lines.proofs.Imports.{map, modules_of, option_map, refl, slice_get, slice_get-get_or}
use Rattle.certificate_lines.proofs.Imports.{slice_get-map, subst, sym, whole, ℕ, ◌<◌, ◌||◌, ◌∙◌, ◌∷◌, ◌≡◌}
use Rattle.lemmas.proofs.Common.{all_unmapped}
use Rattle.certificate_lines.specs.StoredModules.{IsCellWithinLayout, border_line, lines_of_modules, module_lines}
use Rattle.certificate_lines.specs.declared.stored_module.StoredModule.{StoredModule}
use Rattle.certificate_lines.proofs.AnyLines.{any_flat}
use Rattle.certificate_lines.proofs.LackedWires.{any_same, edge_inside}
use Rattle.certificate_lines.proofs.OddBlocks.{lacked_by_lines}
use Rattle.certificate_lines.proofs.StoredLemmas.{edges_with, modules_stored}

-- they are for cells of the rectangle
pub lines_on_layout : (g : Setting) (ms : List StoredModule) →
    AreGoodModulesSoFar g (modules_of (lines_of_modules g.circuit ms)) → (k : ℕ) (n : StoredModule) → k < length ms →
    n ≡ get_or ms k n → All (IsCellWithinLayout g.size) n.edges.items
lines_on_layout g ms sound k n within is i b lt =
    let c = g.circuit in
    let good = (sound.each k (module_lines c n) (
    grind (arith, common_steps, slice_get, modules_stored, slice_get-map, option_map, slice_get-get_or))).good in
    let all = subst (AreLinesInBox (whole g.size)) (edges_with c n n.halos.items)
    (edge_inside g (module_lines c n) good) in
    all_unmapped (λ (e : BorderLine). IsTrue (in_box (whole g.size) e.cell.x e.cell.y))
    (border_line c) n.edges.items all
    i b lt

-- ---- the edge lines that are kept

any_mapped : {X Y : Type 0} (test : Y → Bool) (f : X → Y) (xs : List X) →
    list_any test (map f xs) ≡ list_any (λ x. test (f x)) xs
any_mapped test f [] = refl
any_mapped test f (x ∷ xs) = ap (λ b. test (f x) || b) (any_mapped test f xs)

pub lacked_stored : (c : Circuit) (ms : List StoredModule) →
    list_any (λ m. list_any (λ b. does_neighbour_lack_wire c (modules_of (lines_of_modules c ms)) (border_line c b))
    m.edges.items) ms ≡ list_any (lacks_wire_of_some_edge c (flat_map edges (modules_of (lines_of_modules c ms))))
    (modules_of (lines_of_modules c ms))
lacked_stored c ms =
    let ns = modules_of (lines_of_modules c ms) in
    let test = does_neighbour_lack_wire c ns in
    any_same _ (λ m. list_any test (edges (module_lines c m))) ms
    (λ m. sym (ap (list_any test) (edges_with c m m.halos.items) ∙ any_mapped test (border_line c) m.edges.items))
    ∙ sym (any_mapped (λ n. list_any test (edges n)) (module_lines c) ms)
    ∙ ap (list_any (λ n. list_any test (edges n))) (sym (modules_stored c ms))
    ∙ sym (any_flat test edges ns)
    ∙ lacked_by_lines c ns (flat_map edges ns)
