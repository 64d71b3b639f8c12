-- The stops and kept gates of the modules that lines mean are those of the lines
use Rattle.certificate.proofs.Imports.{Circuit, Gate, List, ModuleLines, Setting, [], all_stops, ap, ap₂, arith}
use Rattle.certificate.proofs.Imports.{cases_Bool, common_steps, delay_and_meet_lines, edge_lines_beside, is_among}
use Rattle.certificate.proofs.Imports.{is_kept, keeps, map, modules_by_version, refl, sorted_border_lines, stops}
use Rattle.certificate.proofs.Imports.{unkept, unkept_gates_from, with_halo_lines, ℕ, ◌++◌, ◌+◌, ◌||◌, ◌∷◌, ◌≡◌}
use Rattle.certificate.proofs.FullModules.{meant_new, meant_old, other_lines, stop_lines}

module _ (g : Setting) (ms : List ModuleLines) where
  stops_full : (m : ModuleLines) → stops (with_halo_lines g ms m) ≡ stops m
  unfolding with_halo_lines
  stops_full m = stop_lines m.lines (sorted_border_lines (edge_lines_beside g ms m.area))

  keeps_full : (m : ModuleLines) → keeps (with_halo_lines g ms m) ≡ keeps m
  unfolding with_halo_lines
  keeps_full m = grind (arith, common_steps, other_lines)

  pub stops_of_all : (ns : List ModuleLines) → all_stops (map (with_halo_lines g ms) ns) ≡ all_stops ns
  stops_of_all [] = refl
  stops_of_all (n ∷ ns) = ap₂ (λ xs ys. xs ++ ys) (stops_full n) (stops_of_all ns)

  pub kept_of_all : (ns : List ModuleLines) (k : ℕ) → is_kept (map (with_halo_lines g ms) ns) k ≡ is_kept ns k
  kept_of_all [] k = refl
  kept_of_all (n ∷ ns) k = ap₂ (λ a b. a || b) (ap (λ ks. is_among ks k) (keeps_full n)) (kept_of_all ns k)

pub stops_meant : (version : ℕ) (g : Setting) (ms : List ModuleLines) →
    all_stops (modules_by_version version g ms) ≡ all_stops ms
stops_meant version g ms = grind (arith, common_steps, cases_Bool, meant_new, stops_of_all, meant_old)

pub times_meant : (version : ℕ) (g : Setting) (c : Circuit) (ms : List ModuleLines) →
    delay_and_meet_lines c (modules_by_version version g ms) ≡ delay_and_meet_lines c ms
times_meant version g c ms = grind (arith, common_steps, stops_meant)

pub kept_meant : (version : ℕ) (g : Setting) (ms : List ModuleLines) (k : ℕ) →
    is_kept (modules_by_version version g ms) k ≡ is_kept ms k
kept_meant version g ms k = grind (arith, common_steps, cases_Bool, meant_new, kept_of_all, meant_old)

unkept_same : (ms ns : List ModuleLines) → ((k : ℕ) → is_kept ms k ≡ is_kept ns k) → (n : ℕ) (gs : List Gate) →
    unkept_gates_from ms n gs ≡ unkept_gates_from ns n gs
unfolding unkept_gates_from
unkept_same ms ns same n [] = refl
unkept_same ms ns same n (g ∷ gs) = grind (arith, common_steps, unkept_same ms ns same (n + 1) gs)

pub unkept_gates_meant : (version : ℕ) (g : Setting) (ms : List ModuleLines) →
    unkept g (modules_by_version version g ms) ≡ unkept g ms
unkept_gates_meant version g ms = grind (arith, common_steps, unkept_same, kept_meant)

-- the same modules mean the same
pub meant_of : {ms ns : List ModuleLines} (version : ℕ) (g : Setting) → ms ≡ ns →
    modules_by_version version g ms ≡ modules_by_version version g ns
meant_of version g same = ap (modules_by_version version g) same
