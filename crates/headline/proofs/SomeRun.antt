-- `run` has an answer to each text
use Rattle.headline.proofs.Imports.{Bool, Cell, Cells, HasAnAnswerToEachText, IsDeadOutside, IsFaultless, IsLiveOutside}
use Rattle.headline.proofs.Imports.{IsRunAnswerOf, IsRunEnd, LayoutHeader, LayoutLine, LeftAt, List, None, Ok, Pattern}
use Rattle.headline.proofs.Imports.{Refusal, Result, RunEnd, RunQuestion, SaysRunEnd, State, [], arith, cases_Bool}
use Rattle.headline.proofs.Imports.{common_steps, cond, false, filter, flat_map, has, in_box, in_layout, inl, inr}
use Rattle.headline.proofs.Imports.{layout_grammar, length, pair_with_result, partner, parts_of, plane_at}
use Rattle.headline.proofs.Imports.{read_faultless, rectangle_cells, refl, run, run_end_outcome, run_end_text}
use Rattle.headline.proofs.Imports.{section_of, size_fault, start, step, subst, suc, sym, true, vec_of, whole, zero, ℕ}
use Rattle.headline.proofs.Imports.{ℤ, ◌<◌, ◌^◌, ◌∙◌, ◌∷◌, ◌≡◌, ◌≤◌, ◌⊎◌}
use Rattle.lemmas.proofs.Common.{◌*◌, cases_lt, mul-le-mul_right}
use Rattle.bbm_rule.proofs.PlaneLemmas.{partner_twice}
use Rattle.bbm_rule.proofs.Steps.{step_dead}
use Rattle.pattern.specs.Run.{RunFirstLeavesAt, live_cells}
use Rattle.pattern.proofs.InsideLemmas.{begins_inside, size_sides, start_inside}
use Rattle.certificate_lines.proofs.BoxPlaces.{box_length, box_place}
use Rattle.certificate_lines.proofs.LineOrder.{In, flat_in}
use Rattle.certificate_lines.proofs.InList.{placed}
use Rattle.certificate.proofs.FullModules.{stands}
use Rattle.soundness.proofs.SomeLeast.{Decided, HasOne, both_decided, bools_decided, some_decided, true_decided}
use Rattle.answers.specs.RunText.{run_sections_of, run_sections_with_limits}
use Rattle.headline.proofs.SomeAnswer.{SaysSomething, answered_always}
use Rattle.headline.proofs.SomeReport.{some_layout}
use Rattle.headline.proofs.YesIsRight.{laid_out, went_on}
use Rattle.section_text.specs.declared.limits.Limits.{Limits}
use Rattle.section_text.specs.Limits.{limits_line_count}
use Rattle.meaning.specs.Design.{section_lines, text_limits}
use Rattle.lemmas.specs.Bounds.{max_side}
use Rattle.section_text.proofs.Codes.{no_code_second}

-- ---- whether a step leaves the layout

module _ (s : LayoutHeader) where
  in_whole : (x y : ℤ) → in_layout s x y ≡ true → In (record { x = x; y = y }) (rectangle_cells (whole s))
  unfolding in_box
  in_whole x y h = stands (rectangle_cells (whole s)) _ (record { x = x; y = y }) (box_place (whole s) x y h)

  module _ (t : ℕ) (state : State) (stays : IsDeadOutside s state) where
    -- the other cells of the block of a cell
    abbrev block_cells : Cell → List Cell
    block_cells d = record { x = partner t d.x; y = partner t d.y } ∷ record { x = partner t d.x; y = d.y }
        ∷ record { x = d.x; y = partner t d.y } ∷ []

    -- all cells outside that may become live
    abbrev near_cells : List Cell
    near_cells = flat_map block_cells (rectangle_cells (whole s))

    abbrev IsOut : Cell → Type 0
    IsOut d = (step t state d.x d.y ≡ true) × (in_layout s d.x d.y ≡ false)

    out_decided : (d : Cell) → Decided (IsOut d)
    out_decided d = both_decided (true_decided (step t state d.x d.y)) (λ _. bools_decided (in_layout s d.x d.y) false)

    by_opposite : (x y : ℤ) → state (partner t x) (partner t y) ≡ true → In (record { x = x; y = y }) near_cells
    unfolding In
    by_opposite x y live =
        flat_in block_cells (record { x = x; y = y }) (rectangle_cells (whole s))
        (record { x = partner t x; y = partner t y }) (in_whole _ _ (stays _ _ live))
        (inl (λ i. record { x = partner_twice t x i; y = partner_twice t y i }))

    by_column : (x y : ℤ) → state (partner t x) y ≡ true → In (record { x = x; y = y }) near_cells
    unfolding In
    by_column x y live =
        flat_in block_cells (record { x = x; y = y }) (rectangle_cells (whole s)) (record { x = partner t x; y = y })
        (in_whole _ _ (stays _ _ live))
        (inr (inl (λ i. record { x = partner_twice t x i; y = y })))

    by_row : (x y : ℤ) → state x (partner t y) ≡ true → In (record { x = x; y = y }) near_cells
    unfolding In
    by_row x y live =
        flat_in block_cells (record { x = x; y = y }) (rectangle_cells (whole s)) (record { x = x; y = partner t y })
        (in_whole _ _ (stays _ _ live))
        (inr (inr (inl (λ i. record { x = x; y = partner_twice t y i }))))

    near : (x y : ℤ) → step t state x y ≡ true → in_layout s x y ≡ false → In (record { x = x; y = y }) near_cells
    near x y live out = grind (arith, common_steps, cases_Bool, by_opposite, by_column, by_row, step_dead)

    none_out : ¬ HasOne IsOut near_cells → IsDeadOutside s (step t state)
    none_out none x y live = elim (cases_Bool (in_layout s x y)) [
      | inl inside ↦ inside
      | inr out ↦
          let at = placed (record { x = x; y = y }) near_cells (near x y live out) in
          absurd (none (record { number = at.0; one = record { x = x; y = y }; at = at.1; holds = (live, out) }))
    ]

    step_decided : IsDeadOutside s (step t state) ⊎ IsLiveOutside s (step t state)
    step_decided = elim (some_decided IsOut out_decided near_cells) [
      | inl h ↦ inr (record { x = h.one.x; y = h.one.y; lives = h.holds.0; outside = h.holds.1 })
      | inr none ↦ inl (none_out none)
    ]

  -- ---- the whole run

  abbrev StaysUpTo : State → ℕ → Type 0
  StaysUpTo first n = (k : ℕ) → k ≤ n → IsDeadOutside s (run first k)

  abbrev LeavesBoard : State → Type 0
  LeavesBoard first = (k : ℕ) × RunFirstLeavesAt s first k

  run_to : (first : State) → IsDeadOutside s first → (n : ℕ) → n ≤ s.steps → StaysUpTo first n ⊎ LeavesBoard first
  unfolding run
  run_to first inside zero le = inl
      (λ k low. let e : zero ≡ k = omega (arith, low) in subst (λ k. IsDeadOutside s (run first k)) e inside)
  run_to first inside (suc n) le = next (run_to first inside n (omega (arith, le)))
    where
      last : StaysUpTo first n → IsDeadOutside s (run first (suc n)) → StaysUpTo first (suc n)
      last stays now k low = elim (cases_lt k (suc n)) [
        | inl lt ↦ stays k (omega (arith, lt))
        | inr ge ↦ let e : suc n ≡ k = omega (arith, low, ge) in subst (λ k. IsDeadOutside s (run first k)) e now
      ]

      next : StaysUpTo first n ⊎ LeavesBoard first → StaysUpTo first (suc n) ⊎ LeavesBoard first
      next (inr left) = inr left
      next (inl stays) = elim (step_decided n (run first n) (stays n (omega arith))) [
        | inl now ↦ inl (last stays now)
        | inr out ↦ inr (suc n, record { within = le; stays = λ j lt. stays j (omega (arith, lt)); leaves = out })
      ]

-- ---- how it ends

filter_few : {A : Type 0} (test : A → Bool) (xs : List A) → length (filter test xs) ≤ length xs
filter_few test [] = omega arith
filter_few test (x ∷ xs) = one (test x) (filter_few test xs)
  where
    one : (b : Bool) → length (filter test xs) ≤ length xs →
        length (cond b (x ∷ filter test xs) (filter test xs)) ≤ suc (length xs)
    one b h1 = grind (arith, common_steps)

few_cells : (s : LayoutHeader) (state : State) → size_fault s ≡ None → length (live_cells s state) < 2 ^ 63
unfolding live_cells
few_cells s state limits =
    let sides = size_sides s limits in
    let wide = sides.0.most in
    let high = sides.1.most in
    let area : s.w * s.h ≤ max_side * s.h = mul-le-mul_right s.h wide in
    let all = filter_few (λ (c : Cell). state c.x c.y) (rectangle_cells (whole s)) in
    let count = box_length (whole s) in
    omega (arith, all, count, area, high)

some_end : (p : Pattern) (on : List ℕ → Bool) → size_fault p.size ≡ None → IsDeadOutside p.size (start p on) →
    (end : RunEnd) × IsRunEnd p on end
some_end p on limits inside = elim (run_to p.size (start p on) inside p.size.steps (omega arith)) [
  | inl stays ↦
      let v = vec_of (live_cells p.size (plane_at p on p.size.steps))
      (few_cells p.size (plane_at p on p.size.steps) limits) in
      (Cells v.vec, record { stays = stays; cells = v.items })
  | inr left ↦ (LeftAt left.0, left.1)
]

-- ---- the answer

-- what is asked has the lines of a layout that was read
record IsAskedLayout (l : Limits) (asked : RunQuestion) : Type 0 where
  pub size : LayoutHeader
  pub parts : List LayoutLine
  pub good : IsFaultless (layout_grammar l None) size parts
  pub same : (size, parts) ≡ asked.0

asked_first : (lines : LayoutHeader × List LayoutLine) (read : Result (List (List ℕ)) Refusal) (asked : RunQuestion) →
    pair_with_result lines read ≡ Ok asked → lines ≡ asked.0
asked_first lines read asked h1 = grind (arith, common_steps)

asked_layout : (text : List ℕ) (asked : RunQuestion) → run_sections_of text ≡ Ok asked →
    IsAskedLayout (text_limits text) asked
unfolding run_sections_of run_sections_with_limits
asked_layout text asked e =
    let k : Limits = text_limits text in
    let ls : List (List ℕ) = section_lines text in
    let l = went_on (section_of (layout_grammar k None) (limits_line_count k) ls) _ asked e in
    record {
      size = l.header;
      parts = l.items;
      good = read_faultless (layout_grammar k None) (limits_line_count k) ls l.header l.items l.was;
      same = asked_first (l.header, l.items) _ asked l.then;
    }

says_end : (l : Limits) (asked : RunQuestion) → IsAskedLayout l asked → SaysSomething SaysRunEnd asked
says_end l asked a =
    let p = some_layout l None a.size a.parts a.good in
    let whole : IsFaultless (layout_grammar l None) p.0.size (parts_of p.0) =
    subst (λ (q : LayoutHeader × List LayoutLine). IsFaultless (layout_grammar l None) q.0 q.1) (sym p.1) a.good in
    let begins = begins_inside p.0 (laid_out l None p.0.size [] (parts_of p.0) whole.each) in
    let end = some_end p.0 (has asked.1) (no_code_second _ _ whole.header) (start_inside p.0 (has asked.1) begins) in
    record {
      output = run_end_text end.0;
      outcome = run_end_outcome end.0;
      is = record { layout = p.0; end = end.0; lines = p.1 ∙ a.same; run = end.1; says = refl; ends = refl };
    }

pub some_run : HasAnAnswerToEachText IsRunAnswerOf
some_run text = answered_always SaysRunEnd (run_sections_of text)
    (λ asked e. says_end (text_limits text) asked (asked_layout text asked e))
