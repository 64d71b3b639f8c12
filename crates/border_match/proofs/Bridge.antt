-- From the jobs of modules to their lines
use Rattle.border_match.proofs.Imports.{All, AreModules, BorderFault, BorderLine, Box2, Cell, Halo, IsOwnerTableOfJobs}
use Rattle.border_match.proofs.Imports.{IfSome, IsBorderFault, IsBorderFaultOfJob, IsLeastBorderFault, IsLeastCandidate}
use Rattle.border_match.proofs.Imports.{IsEventListed, JobView, List, ModuleLines, None, Option, Ring, Signal, Signals}
use Rattle.border_match.proofs.Imports.{Some}
use Rattle.border_match.proofs.Imports.{TimedSignal, ap, ap₂, areas, arith, circuit_wire, common_steps, edge_signal}
use Rattle.border_match.proofs.Imports.{event_at, event_if_timed, get_or_from_slice_get, halo_signal, in_box}
use Rattle.border_match.proofs.Imports.{line_signals, mapped_from, option_map, owner_of, rectangle_of, renumber_event}
use Rattle.border_match.proofs.Imports.{renumber_signals, same_some, setting_of, slice_get, slice_get-map}
use Rattle.border_match.proofs.Imports.{slice_get_within, some_at, subst, sym, true, whole, ℕ, ℤ, ◌%◌, ◌<◌, ◌∙◌, ◌≡◌}
use Rattle.circuit.specs.Bridge.{circuit_of}
use Rattle.circuit.specs.declared.circuit_line.CircuitLine.{CircuitLine}
use Rattle.pattern.specs.Layout.{Pattern}
use Rattle.module_box.specs.Tiling.{OwnersView, IsTilingOwnerTable, rectangle}
use Rattle.certificate_lines.specs.Entries.{edges}
use Rattle.certificate_lines.proofs.FlatParts.{flat_all}
use Rattle.certificate.specs.Jobs.{AreJobsOf, IsJobOf, one_or_named_wire}
use Rattle.certificate_lines.specs.Modules.{IsModule}
use Rattle.border_match.specs.Boards.{job_signal, HasNoEventAtStart}
use Rattle.certificate_lines.proofs.OddBlocks.{area_of}
use Rattle.border_match.proofs.Renumbered.{signal_renumbered, no_event_back, lines_quiet}
use Rattle.bbm_rule.proofs.RingTests.{ring_in_box}

module _ (cs : List CircuitLine) (p : Pattern) where
  pub halo_same : (m : ModuleLines) (j : JobView) (t : ℕ) (x y : ℤ) → IsJobOf (circuit_of cs) p m j →
      job_signal Halo j t x y ≡ halo_signal (circuit_of cs) m t x y
  halo_same m j t x y is = grind (arith, common_steps, signal_renumbered)

  pub edge_same : (m : ModuleLines) (j : JobView) (t : ℕ) (x y : ℤ) → IsJobOf (circuit_of cs) p m j →
      job_signal Ring j t x y ≡ edge_signal (circuit_of cs) m t x y
  edge_same m j t x y is = grind (arith, common_steps, signal_renumbered)

  -- no line names the time 0
  signals_quiet : (j : JobView) (s : Signals) (es : List BorderLine) (x y : ℤ) →
      renumber_signals (circuit_wire j.locals) s ≡ line_signals (circuit_of cs) es →
      All (λ e. IfSome e.time (λ t. (t % 2 ≡ 1) × (t < p.size.steps))) es → event_at s.events 0 x y ≡ None
  signals_quiet j s es x y same odd =
      no_event_back (circuit_wire j.locals) s.events 0 x y
      (ap (λ (s : Signals). event_at s.events 0 x y) same
      ∙ lines_quiet p.size.steps (λ e. one_or_named_wire (circuit_of cs) e.signal) es x y odd)

  -- what holds of the cells of lines holds of those of their events
  one_cell : (P : Cell → Type 0) (d : BorderLine) (t : Option ℕ) (s : Signal) → P d.cell →
      All (λ (h : TimedSignal). P h.at.cell) (event_if_timed d t s)
  one_cell P d t s h1 = grind (arith, common_steps)

  listed_cell : (P : Cell → Type 0) (j : JobView) (s : Signals) (es : List BorderLine) (e : TimedSignal) →
      renumber_signals (circuit_wire j.locals) s ≡ line_signals (circuit_of cs) es → All (λ d. P d.cell) es →
      IsEventListed s.events e → P e.at.cell
  listed_cell P j s es e same all at =
      let f = renumber_event (circuit_wire j.locals) in
      let by : List TimedSignal = (line_signals (circuit_of cs) es).events in
      let Q : TimedSignal → Type 0 = λ h. P h.at.cell in
      let got : slice_get by at.0 ≡ Some (f e) = ap (λ (r : Signals). slice_get r.events at.0) (sym same)
      ∙ slice_get-map f s.events at.0 ∙ ap (option_map f) at.1 in
      subst Q (get_or_from_slice_get by at.0 (f e) (f e) got)
      (flat_all Q (λ d. event_if_timed d d.time (one_or_named_wire (circuit_of cs) d.signal)) (λ d. P d.cell)
      (λ d here. one_cell P d d.time (one_or_named_wire (circuit_of cs) d.signal) here) es all at.0 (f e)
      (slice_get_within by at.0 (f e) got))

  pub quiet : (m : ModuleLines) (j : JobView) → IsModule (setting_of cs p) m → IsJobOf (circuit_of cs) p m j →
      HasNoEventAtStart j
  quiet m j good is = grind (arith, common_steps, signals_quiet)

  module _ (ms : List ModuleLines) (js : List JobView) (o : OwnersView) (good : AreModules (setting_of cs p) ms)
      (made : AreJobsOf (circuit_of cs) p ms js) (owners : IsTilingOwnerTable o (areas ms))
      (w : o.width ≡ p.size.w) (h : o.height ≡ p.size.h) where
    same_rectangle : whole p.size ≡ rectangle o
    same_rectangle = ap₂ rectangle_of (sym w) (sym h)

    job_of : (k : ℕ) (m : ModuleLines) → slice_get ms k ≡ Some m → (j : JobView) × (slice_get js k ≡ Some j)
    job_of k m e = some_at js k (let lt = slice_get_within ms k m e in let n = made.count in omega (arith, lt, n))

    lines_of : (k : ℕ) (j : JobView) → slice_get js k ≡ Some j → (m : ModuleLines) × (slice_get ms k ≡ Some m)
    lines_of k j e = some_at ms k (let lt = slice_get_within js k j e in let n = made.count in omega (arith, lt, n))

    -- the module that has a cell of the rectangle
    record IsOnlyBoxWithCell (x y : ℤ) : Type 0 where
      lines : ModuleLines
      numbered : slice_get ms (owner_of o x y) ≡ Some lines
      has : in_box lines.area x y ≡ true

    holder : (x y : ℤ) → in_box (whole p.size) x y ≡ true → IsOnlyBoxWithCell x y
    holder x y inside = grind (arith, common_steps, same_rectangle, mapped_from)

    pub quiet_job : (k : ℕ) (j : JobView) → slice_get js k ≡ Some j → HasNoEventAtStart j
    quiet_job k j e = let m = lines_of k j e in quiet m.0 j (good.each k m.0 m.1) (made.each k m.0 j m.1 e)

    only : (x y : ℤ) (k : ℕ) (j : JobView) → in_box (whole p.size) x y ≡ true → slice_get js k ≡ Some j →
        in_box j.area x y ≡ true → owner_of o x y ≡ k
    only x y k j inside got has =
        let n = holder x y inside in
        let m = lines_of k j got in
        let is = made.each k m.0 j m.1 got in
        owners.tile.once x y (owner_of o x y) k n.lines.area m.0.area (area_of ms _ n.lines n.numbered)
        (area_of ms k m.0 m.1) n.has (ap (λ (b : Box2). in_box b x y) (sym is.area) ∙ has)

    edge_owned : (k : ℕ) (j : JobView) (e : TimedSignal) → slice_get js k ≡ Some j → IsEventListed j.edges.events e →
        (in_box (whole p.size) e.at.cell.x e.at.cell.y ≡ true) × (owner_of o e.at.cell.x e.at.cell.y ≡ k)
    edge_owned k j e got at =
        let m = lines_of k j got in
        let is = made.each k m.0 j m.1 got in
        let P : Cell → Type 0 = λ c. in_box m.0.area c.x c.y ≡ true in
        let has : P e.at.cell = listed_cell P j j.edges (edges m.0) e is.edges
        (λ i d lt. ring_in_box m.0.area _ _ ((good.each k m.0 m.1).edge_lines i d lt).ring) at in
        let inside = good.tile.inside _ _ k m.0.area (area_of ms k m.0 m.1) has in
        (inside, only _ _ k j inside got (ap (λ (b : Box2). in_box b e.at.cell.x e.at.cell.y) is.area ∙ has))

    pub board : IsOwnerTableOfJobs (whole p.size) o js
    board = record {
      same = same_rectangle;
      holder = λ x y inside.
          let m = holder x y inside in
          let j = job_of (owner_of o x y) m.lines m.numbered in
          (j.0, j.1, ap (λ (b : Box2). in_box b x y) (made.each _ m.lines j.0 m.numbered j.1).area ∙ m.has);
      only = only;
      edges = edge_owned;
      quiet = quiet_job;
    }

    -- ---- border faults by jobs are border faults

    fault_by_lines : (i : ℕ) (j : JobView) (f : BorderFault) → slice_get js i ≡ Some j →
        IsBorderFaultOfJob (whole p.size) o js j f → IsBorderFault (setting_of cs p) ms i f
    fault_by_lines i j f e g =
        let x = f.cell.x in let y = f.cell.y in
        let m = lines_of i j e in
        let is = made.each i m.0 j m.1 e in
        let d = g.different in
        let n = holder x y g.inside in
        let by = made.each _ n.lines d.owner n.numbered d.numbered in
        grind (arith, common_steps, halo_same, edge_same)

    fault_by_jobs : (i : ℕ) (j : JobView) (f : BorderFault) → slice_get js i ≡ Some j →
        IsBorderFault (setting_of cs p) ms i f → IsBorderFaultOfJob (whole p.size) o js j f
    fault_by_jobs i j f e g =
        let x = f.cell.x in let y = f.cell.y in
        let is = made.each i g.lines j g.numbered e in
        let n = holder x y g.inside in
        let k = owner_of o x y in
        let number : k ≡ g.owner_number =
        owners.tile.once x y k g.owner_number n.lines.area g.owner.area (area_of ms k n.lines n.numbered)
        (area_of ms g.owner_number g.owner g.owner_numbered) n.has g.owned in
        let own = job_of k n.lines n.numbered in
        let by = made.each k n.lines own.0 n.numbered own.1 in
        let same : n.lines ≡ g.owner =
        same_some (slice_get ms k) n.lines g.owner n.numbered (ap (slice_get ms) number ∙ g.owner_numbered) in
        grind (arith, common_steps, halo_same, edge_same)

    pub least_by_lines : (i : ℕ) (j : JobView) (r : Option BorderFault) → slice_get js i ≡ Some j →
        IsLeastCandidate (IsBorderFaultOfJob (whole p.size) o js j) r → IsLeastBorderFault (setting_of cs p) ms i r
    least_by_lines i j r h1 h2 = grind (arith, common_steps, fault_by_jobs, fault_by_lines)
