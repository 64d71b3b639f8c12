-- The modules of a certificate that is read
use Rattle.certificate.proofs.Imports.{List, ◌≡◌, CircuitLine, ModuleLines, Pattern, Tile, areas, setting_of, whole}
use Rattle.certificate.proofs.Imports.{arith, common_steps}
use Rattle.module_box.proofs.PartOwners.{owners_by_tile}
use Rattle.module_box.specs.Tiling.{OwnersView, no_owner}
use Rattle.certificate_lines.specs.BuilderView.{IsModuleOwnerTable}
use Rattle.certificate.specs.GoodModules.{IsLayoutOwnerTable}
use Rattle.std.specs.declared.result.Result.TheVariants.{Err, Ok}
use Rattle.section_text.specs.declared.fault.ReadFault.{ReadFault}
use Rattle.section_text.specs.Feeds.{FeedView}
use Rattle.section_text.specs.Section.{Grammar, Reads}

-- ---- what is read is the same by another view

pub reads_as : {H I A B : Type 0} (g : Grammar H I) (view : A → H × List I) (other : B → H × List I)
    (old new : FeedView) (a : A) (b : B) → Reads g view old new (Ok a) → view a ≡ other b → Reads g other old new (Ok b)
reads_as g view other old new a b h same = grind (arith, common_steps)

pub fails_as : {H I A B : Type 0} (g : Grammar H I) (view : A → H × List I) (other : B → H × List I)
    (old new : FeedView) (fault : ReadFault) → Reads g view old new (Err fault) → Reads g other old new (Err fault)
fails_as g view other old new fault h = grind (arith, common_steps)

-- ---- the owners of modules whose boxes tile the layout

pub owners_read : (cs : List CircuitLine) (p : Pattern) (ms : List ModuleLines) (o : OwnersView) →
    IsModuleOwnerTable (setting_of cs p) ms o → Tile (whole p.size) (areas ms) → IsLayoutOwnerTable p (areas ms) o
owners_read cs p ms o built tile = record {
  width = built.width;
  height = built.height;
  owners = owners_by_tile o built.boxes.table (areas ms) built.boxes.each no_owner built.boxes.taken
      (rw (built.width, built.height) tile);
}
