-- A text is refuted by one `local` line if its one module passes tests, which a proof by computation can run.
--
-- By the tests a cell is not as asked at the end, and no fault comes before this one in the order of faults.
use Rattle.headline.proofs.Imports.{All, All-head, AnswersOrRefuses, AreGatesOrdered, AreJobsOf, AreModules}
use Rattle.headline.proofs.Imports.{BelongTogether}
use Rattle.headline.proofs.Imports.{Bool, Bundle, Cell, CertView, CircuitLine, Fault, IsPlainModule, IsRead, IsReportOf}
use Rattle.headline.proofs.Imports.{IsVerdict, JobView, Kind, LineMeans, List, Local, ModuleLines, No, None, Ok, Option}
use Rattle.headline.proofs.Imports.{Pattern, ReportLine, SaysNoWith, SaysReport, Setting, Some, Valuation, Verdict, []}
use Rattle.headline.proofs.Imports.{and_parts, ap, ap₂, are_jobs_of, arith, as_values, bit, bundle_of, certificate_text}
use Rattle.headline.proofs.Imports.{circuit_of, codes, common_steps, evaluate, false, false≢true, fault_cmp, flat_map}
use Rattle.headline.proofs.Imports.{gates_are_ordered, in_box, in_ring, job_demand, job_of, layout_section, length}
use Rattle.headline.proofs.Imports.{length-map, line_text, list_all, local_run, map, modules_in, modules_of, netlist_of}
use Rattle.headline.proofs.Imports.{not, range_with_len, read_layout-names, refl, report_line_text, report_text}
use Rattle.headline.proofs.Imports.{setting_of, sha256, slice_get, subst, suc, sym, timing_report_line, true}
use Rattle.headline.proofs.Imports.{true≢false, vec_of, whole, zero, ℕ, ℤ, ◌&&◌, ◌++◌, ◌<◌, ◌||◌, ◌∙◌, ◌∷◌, ◌≡◌, ◌≢◌}
use Rattle.lemmas.proofs.Common.{Greater, Ordering, booleans_Decides, get_or-map-range_with_len}
use Rattle.lemmas.proofs.Common.{length-range_with_len, slice_get-get_or}
use Rattle.circuit.proofs.Valuations.{evaluated}
use Rattle.module_box.specs.LocalValues.{IsLocalValuation}
use Rattle.module_box.proofs.Neighbours.{halo_parts}
use Rattle.certificate.specs.Times.{delay_and_meet_lines}
use Rattle.module_job.specs.Jobs.{IsJob}
use Rattle.module_job.specs.Signals.{MeetsDemand}
use Rattle.module_job.specs.declared.job.Demand.{Demand}
use Rattle.local_run.specs.Faults.{IsFaultUnderValues, IsLeastFault, assignments}
use Rattle.local_run.specs.declared.fault.Kind.TheVariants.{Edge, Stop, End}
use Rattle.local_run.proofs.Decided.{decided}
use Rattle.border_match.specs.BorderFaults.{IsBorderFault, IsLeastBorderFault}
use Rattle.border_match.specs.declared.fault.BorderFault.{BorderFault}
use Rattle.soundness.specs.PlainCertificates.{LocalLineMeans}
use Rattle.core_book.specs.Verdicts.{AreLeastFaultsOfJob, report_lines_from, unkept_lines}
use Rattle.core_book.specs.declared.verdict.LeastFaults.{LeastFaults}
use Rattle.soundness.proofs.PlainCertificates.{only_module, plain_report_lines}
use Rattle.soundness.proofs.SomeVerdict.{IsVecOf, jobs_good}
use Rattle.soundness.proofs.Trials.{all_at, all_below, at_every, at_odd, at_odd_times, edge_test, every_cell, given_of}
use Rattle.soundness.proofs.Trials.{implied, meets, meets_is, stop_test}
use Rattle.report.specs.ReportText.{lines_before_verdict}
use Rattle.headline.proofs.SomeReport.{certificate_by, limits, modules_good}
use Rattle.headline.proofs.YesIsRight.{bundle_good, known}
use Rattle.bbm_rule.proofs.RingTests.{ring_in_box}
use Rattle.core_book.specs.declared.verdict.Verdict.TheVariants as verdict

-- ---- tests of all elements

one_of : (a b : Bool) → (a || b) ≡ true → a ≡ false → b ≡ true
one_of a b h1 h2 = grind (arith, common_steps)

-- ---- what is demanded

met : (v : Valuation) (d : Demand) (live : Bool) → MeetsDemand v d live → meets v d live ≡ true
met v d live h1 = grind (arith, common_steps)

-- ---- the first fault

-- a fault at the end
abbrev pub end_fault_at : JobView → Cell → ℕ → Fault
end_fault_at j d a = record { time = j.steps; kind = End; cell = d; assignment = a }

abbrev pub is_no_later : Ordering → Bool
is_no_later Greater = false
is_no_later _ = true

-- no fault under the assignment a comes before f, if the wires have these values
abbrev pub none_before : JobView → Fault → ℕ → Valuation → Bool
none_before j f a u = at_odd_times j.steps (edge_test j u) && (stop_test j u
    && every_cell j.area (λ x y. meets u (job_demand j x y) (local_run j u j.steps x y)
    || is_no_later (fault_cmp f (end_fault_at j (record { x = x; y = y }) a))))

-- the cell is not as asked at the end
abbrev pub is_missed : JobView → Cell → Valuation → Bool
is_missed j d u = in_box j.area d.x d.y && not (meets u (job_demand j d.x d.y) (local_run j u j.steps d.x d.y))

-- whether `evaluate` finds values and they pass the test
abbrev pub found_by : (Valuation → Bool) → Option (List Bool) → Bool
found_by test None = false
found_by test (Some vs) = test (as_values vs)

-- this is the least fault, by tests under each assignment
pub record IsFirstByTests (j : JobView) (d : Cell) (a : ℕ) : Type 0 where
  pub small : a < assignments j
  pub missed : found_by (is_missed j d) (evaluate (given_of j a) j.locals.netlist.gates) ≡ true
  pub before : list_all (λ b. found_by (none_before j (end_fault_at j d a) b)
      (evaluate (given_of j b) j.locals.netlist.gates)) (range_with_len 0 (assignments j)) ≡ true

record IsFound (j : JobView) (a : ℕ) (test : Valuation → Bool) : Type 0 where
  values : Valuation
  local : IsLocalValuation j.locals a values
  passes : test values ≡ true

found : (j : JobView) (a : ℕ) (test : Valuation → Bool) →
    AreGatesOrdered j.locals.netlist.given j.locals.netlist.gates →
    found_by test (evaluate (given_of j a) j.locals.netlist.gates) ≡ true → IsFound j a test
found j a test ordered = by (evaluate (given_of j a) j.locals.netlist.gates) refl
  where
    by : (o : Option (List Bool)) → evaluate (given_of j a) j.locals.netlist.gates ≡ o → found_by test o ≡ true →
        IsFound j a test
    by None e h = absurd (false≢true h)
    by (Some vs) e h =
        let n = j.locals.netlist.given in
        record {
          values = as_values vs;
          local = (evaluated j.locals.netlist (bit a) (given_of j a) vs ordered
              (length-map (range_with_len 0 n) (bit a) ∙ length-range_with_len 0 n)
              (λ i lt. get_or-map-range_with_len (bit a) 0 n i i false lt (omega arith)) e).satisfies;
          passes = h;
        }

no_later : (o : Ordering) → is_no_later o ≡ true → o ≢ Greater
no_later o h1 = grind (arith, common_steps, false≢true)

module _ (j : JobView) (is : IsJob j) (ordered : AreGatesOrdered j.locals.netlist.given j.locals.netlist.gates) where
  after : (f : Fault) (a : ℕ) (u : Valuation) (t : ℕ) (kind : Kind) (x y : ℤ) → none_before j f a u ≡ true →
      IsFaultUnderValues j u t kind x y →
      fault_cmp f (record { time = t; kind = kind; cell = record { x = x; y = y }; assignment = a }) ≢ Greater
  after f a u t Edge x y pass g =
      let all = (and_parts (at_odd_times j.steps (edge_test j u)) _ pass).0 in
      absurd (g.differs ((booleans_Decides _ _).0 (implied (in_ring j.area x y) _
      (at_every j.area _ (at_odd j.steps (edge_test j u) all t g.odd g.early) x y (ring_in_box j.area x y g.ring))
      g.ring)))
  after f a u t Stop x y pass g = grind (arith, common_steps, stop_test, slice_get-get_or, all_at)
  after f a u t End x y pass g =
      let all = (and_parts (stop_test j u) _ (and_parts (at_odd_times j.steps (edge_test j u)) _ pass).1).1 in
      let either = at_every j.area _ all x y g.inside in
      let missed : meets u (job_demand j x y) (local_run j u j.steps x y) ≡ false =
      by (meets u (job_demand j x y) (local_run j u j.steps x y)) refl in
      subst (λ n. fault_cmp f (record { time = n; kind = End; cell = record { x = x; y = y }; assignment = a })
      ≢ Greater)
      (sym g.last) (no_later _ (one_of _ _ either missed))
    where
      by : (b : Bool) → meets u (job_demand j x y) (local_run j u j.steps x y) ≡ b → b ≡ false
      by b h1 = grind (arith, common_steps, meets_is)

  first_is_least : (d : Cell) (a : ℕ) → IsFirstByTests j d a → IsLeastFault j (Some (end_fault_at j d a))
  first_is_least d a tests = (
    (let v = found j a (is_missed j d) ordered tests.missed in
        let both = and_parts (in_box j.area d.x d.y) _ v.passes in
        (decided j (end_fault_at j d a) v.values is ordered tests.small v.local).1 (record {
          last = refl;
          inside = both.0;
          differs = λ h. true≢false (sym both.1 ∙ ap not (met v.values _ _ h));
        })),
    (λ g fault.
        let v = found j g.assignment (none_before j (end_fault_at j d a) g.assignment) ordered
        (all_below (λ b. found_by (none_before j (end_fault_at j d a) b)
        (evaluate (given_of j b) j.locals.netlist.gates)) (assignments j) g.assignment tests.before fault.in_range) in
        after (end_fault_at j d a) g.assignment v.values g.time g.kind g.cell.x g.cell.y v.passes
        ((decided j g v.values is ordered fault.in_range v.local).0 fault)),
  )

-- ---- one module that is the whole rectangle

no_border : (g : Setting) (m : ModuleLines) → m.area ≡ whole g.size → (n : ℕ) (f : BorderFault) →
    ¬ IsBorderFault g (m ∷ []) n f
no_border g m is n f fault = grind (arith, common_steps, only_module, true≢false, halo_parts)

-- ---- a text with one such module

-- the lines of a bundle with this layout
abbrev pub its_lines : Bundle → Pattern → CertView
its_lines b p = record { circuit = b.circuit; layout = p; version = b.version; entries = b.entries }

abbrev pub its_job : Bundle → Pattern → ModuleLines → JobView
its_job b p m = job_of (circuit_of b.circuit) p m

-- The one module of a bundle with this layout is plain and keeps no gate. Its job passes the tests for a first fault at
-- the end, of this cell and under this assignment. The lines on delays and meetings are these.
pub record Fails (b : Bundle) (p : Pattern) (m : ModuleLines) (d : Cell) (a : ℕ)
    (times : List ReportLine) : Type 0 where
  pub layout : layout_section p ≡ (b.size, b.parts)
  pub alone : modules_in (its_lines b p) ≡ m ∷ []
  pub plain : IsPlainModule b.circuit p m
  pub none_kept : (its_job b p m).kept ≡ []
  pub first : IsFirstByTests (its_job b p m) d a
  pub unkept : unkept_lines (setting_of b.circuit p) (m ∷ []) ≡ []
  pub on_times : map timing_report_line (delay_and_meet_lines (circuit_of b.circuit) (m ∷ [])) ≡ times
  pub few : length times < 1024

-- it is reported with a no, whose lines are one on the fault, and then these
pub record IsRefuted (text : List ℕ) (b : Bundle) (p : Pattern) (m : ModuleLines) (d : Cell) (a : ℕ)
    (times : List ReportLine) : Type 0 where
  pub output : List ℕ
  pub reported : IsReportOf text output No
  pub says : SaysNoWith output (Local 0 (end_fault_at (its_job b p m) d a) ∷ times)
  pub shows : LocalLineMeans b.circuit p m (end_fault_at (its_job b p m) d a)

-- a verdict on modules
record IsJudged (lines : List CircuitLine) (p : Pattern) (v : Verdict) (ms : List ModuleLines) : Type 0 where
  good : AreModules (setting_of lines p) ms
  jobs : List JobView
  are_jobs : AreJobsOf (circuit_of lines) p ms jobs
  judged : IsVerdict (setting_of lines p) ms jobs v

module _ (text : List ℕ) (b : Bundle) (e : bundle_of text ≡ Ok b) (p : Pattern) (m : ModuleLines) (d : Cell) (a : ℕ)
    (times : List ReportLine) (fails : Fails b p m d a times) where
  abbrev c : CertView
  c = certificate_by text b e p fails.layout

  abbrev g : Setting
  g = setting_of b.circuit p

  abbrev j : JobView
  j = its_job b p m

  abbrev f : Fault
  f = end_fault_at j d a

  abbrev lines : List ReportLine
  lines = Local 0 f ∷ times

  ordered : AreGatesOrdered (netlist_of b.circuit).given (netlist_of b.circuit).gates
  ordered = gates_are_ordered b.circuit (bundle_good text b e).circuit

  good : AreModules g (m ∷ [])
  good = subst (AreModules g) fails.alone (modules_good text b e p fails.layout)

  are_jobs : AreJobsOf (circuit_of b.circuit) p (m ∷ []) (j ∷ [])
  are_jobs = are_jobs_of b.circuit p (m ∷ []) ordered (λ k n at. (good.each k n at, good.ports k n at))

  job_is : IsJob j × AreGatesOrdered j.locals.netlist.given j.locals.netlist.gates
  job_is = jobs_good b.circuit p (m ∷ []) (j ∷ []) (limits text b e p fails.layout) good are_jobs 0 j refl

  least : IsLeastFault j (Some f)
  least = first_is_least j job_is.0 job_is.1 d a fails.first

  reasons : LeastFaults
  reasons = record { fault = Some f; keep = None }

  told : AreLeastFaultsOfJob j reasons
  unfolding reasons
  told = grind (arith, common_steps, least)

  told_at : (k : ℕ) (i : JobView) (r : LeastFaults) → slice_get (j ∷ []) k ≡ Some i →
      slice_get (reasons ∷ []) k ≡ Some r → AreLeastFaultsOfJob i r
  told_at zero i r at there = grind (arith, common_steps, told)
  told_at (suc k) i r at there = absurd cc

  none_at : (k : ℕ) (o : Option BorderFault) → slice_get (None ∷ []) k ≡ Some o → IsLeastBorderFault g (m ∷ []) k o
  none_at zero o at = let same : None ≡ o = cc in
      subst (IsLeastBorderFault g (m ∷ []) 0) same (λ f. no_border g m fails.plain.box 0 f)
  none_at (suc k) o at = absurd cc

  vec : IsVecOf lines
  vec = vec_of lines (let few = fails.few in omega (arith, few))

  judged : IsVerdict g (m ∷ []) (j ∷ []) (verdict.No vec.vec)
  unfolding IsVerdict report_lines_from reasons
  judged = (
    (λ is. is.no_fault 0 j f refl least.0),
    record {
      faults = reasons ∷ [];
      are_least = record { count = refl; each = told_at };
      borders = None ∷ [];
      are_border_faults = record { count = refl; each = none_at };
      lines_are = vec.items ∙ ap₂ (λ u t. (Local 0 f ∷ []) ++ u ++ t) (sym fails.unkept) (sym fails.on_times);
    },
  )

  on_modules : IsJudged b.circuit p (verdict.No vec.vec) (modules_in c)
  on_modules = grind (arith, common_steps, good, are_jobs, judged)

  abbrev says_no : SaysReport b (report_text c (verdict.No vec.vec)) No
  says_no = record {
    certificate = c;
    its_own = record { circuit = refl; layout = fails.layout; version = refl; entries = refl };
    verdict = verdict.No vec.vec;
    is_verdict = record {
      good = on_modules.good;
      jobs = on_modules.jobs;
      are_jobs = on_modules.are_jobs;
      judged = on_modules.judged;
    };
    says = refl;
    ends = refl;
  }

  spelled : SaysNoWith (report_text c (verdict.No vec.vec)) lines
  unfolding report_text
  spelled = record {
    digest = sha256 (certificate_text c);
    modules = length (modules_of c.entries);
    spelled = ap (λ ls. lines_before_verdict (sha256 (certificate_text c)) (length (modules_of c.entries))
        ++ (line_text (codes "verdict") (codes "no" ∷ []) ++ flat_map report_line_text ls)) vec.items;
  }

  read_so : IsRead c c.layout.size
  read_so = known text b (report_text c (verdict.No vec.vec)) No e says_no

  together : BelongTogether b.circuit p (m ∷ []) (j ∷ [])
  together = grind (arith, common_steps, ordered, limits, read_so, good, are_jobs)

  means : All (LineMeans b.circuit p m) lines
  means = subst (All (LineMeans b.circuit p m)) vec.items
      (plain_report_lines b.circuit p m (j ∷ []) vec.vec
      (read_layout-names b.circuit p read_so.inputs read_so.named) together fails.plain judged)

  pub is_refuted : IsRefuted text b p m d a times
  is_refuted = record {
    output = report_text c (verdict.No vec.vec);
    reported = subst (λ r. AnswersOrRefuses SaysReport r (report_text c (verdict.No vec.vec)) No) (sym e) says_no;
    says = spelled;
    shows = All-head (LineMeans b.circuit p m) (Local 0 f) times means;
  }
