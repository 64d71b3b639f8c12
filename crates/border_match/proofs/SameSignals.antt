-- Halo and edge signals are the same if a module has no border fault
use Rattle.border_match.proofs.Imports.{BorderFault, IsBorderFault, List, ModuleLines, Setting, Signal, ap, arith}
use Rattle.border_match.proofs.Imports.{cases_Bool, common_steps, edge_signal, false≢true, halo_signal, refl, ℕ, ℤ, ◌≡◌}
use Rattle.border_match.proofs.Imports.{◌≢◌}
use Rattle.circuit.specs.Meaning.{Valuation}
use Rattle.module_box.proofs.EqualTests.{signal_decides}
use Rattle.module_job.specs.Signals.{is_live}
use Rattle.border_match.specs.Laws.{IsHaloMomentOwnedBy, NoBorderFaultMeansSameSignals}
use Rattle.certificate_lines.proofs.OddBlocks.{area_of}

-- signals that do not differ are the same
pub not_different : (a b : Signal) → (a ≢ b → ⊥) → a ≡ b
not_different a b h = grind (arith, common_steps, cases_Bool, signal_decides, false≢true)

-- a fault at that time is enough
pub same_at : (g : Setting) (ms : List ModuleLines) (i k : ℕ) (m owner : ModuleLines) (t : ℕ) (x y : ℤ)
    (v : Valuation) →
    ((f : BorderFault) → f.time ≡ t → ¬ IsBorderFault g ms i f) → IsHaloMomentOwnedBy g ms i k m owner t x y →
    is_live v (halo_signal g.circuit m t x y) ≡ is_live v (edge_signal g.circuit owner t x y)
same_at g ms i k m owner t x y v none beside =
    ap (is_live v) (not_different (halo_signal g.circuit m t x y) (edge_signal g.circuit owner t x y) (λ differ.
    none (record { time = t; cell = record { x = x; y = y } }) refl (record {
      odd = beside.odd;
      early = beside.early;
      inside = beside.tile.inside x y k owner.area (area_of ms k owner beside.owner_numbered) beside.owned;
      lines = m;
      numbered = beside.numbered;
      halo = beside.halo;
      owner_number = k;
      owner = owner;
      owner_numbered = beside.owner_numbered;
      owned = beside.owned;
      differ = differ;
    })))

pub same_signals : NoBorderFaultMeansSameSignals
same_signals g ms i k m owner t x y v none beside = same_at g ms i k m owner t x y v (λ f at. none f) beside
