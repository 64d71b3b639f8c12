-- A section that was read is good: neither its header, nor an item after those before it, nor its end had a fault.
use Rattle.section_text.proofs.Imports.{End, FeedView, Form, Grammar, Header, Item, List, None, Ok, Option, ReadFault}
use Rattle.section_text.proofs.Imports.{Reads, Refusal, RefusalCode, Result, Some, [], ahead, append-nil, arith}
use Rattle.section_text.proofs.Imports.{common_steps, refl, refused_if_code, result_after_header, result_after_line}
use Rattle.section_text.proofs.Imports.{section_body_of, section_of, words_of, ℕ, ◌++◌, ◌+◌, ◌∷◌, ◌≡◌}

module _ {H I : Type 0} (g : Grammar H I) where
  -- each item has no fault after the items before it
  abbrev pub AreFaultless : H → List I → List I → Type 0
  AreFaultless h before [] = Unit {0}
  AreFaultless h before (i ∷ items) = (g.item_fault h before i ≡ None) × AreFaultless h (before ++ i ∷ []) items

  pub record IsFaultless (h : H) (items : List I) : Type 0 where
    pub header : g.header_fault h ≡ None
    pub each : AreFaultless h [] items
    pub end : g.end_fault h items ≡ None

  record BodyFaultless (h : H) (before : List I) (h' : H) (rows : List I) : Type 0 where
    pub more : List I
    pub rows_are : rows ≡ before ++ more
    pub same : h' ≡ h
    pub each : AreFaultless h before more
    pub end : g.end_fault h rows ≡ None

  unless_ok : (n : ℕ) (o : Option RefusalCode) (r : Result (H × List I) Refusal) (y : H × List I) →
      refused_if_code n o r ≡ Ok y → (o ≡ None) × (r ≡ Ok y)
  unless_ok n o r y h1 = grind (arith, common_steps)

  ok_is : (x y : H × List I) → ◌≡◌ {A = Result (H × List I) Refusal} (Ok x) (Ok y) → x ≡ y
  ok_is x y e = cc

  line_faultless : (ls : List (List ℕ)) (h : H) (before : List I) (n : ℕ) (h' : H) (rows : List I)
      (o : Option (Form H I))
      → result_after_line g h before n (λ i. section_body_of g h (before ++ i ∷ []) (n + 1) ls) o ≡ Ok (h', rows)
      → ((i : I) → section_body_of g h (before ++ i ∷ []) (n + 1) ls ≡ Ok (h', rows) →
      BodyFaultless h (before ++ i ∷ []) h' rows) → BodyFaultless h before h' rows
  line_faultless ls h before n h' rows (Some (Item i)) e rec = grind (arith, common_steps, unless_ok)
  line_faultless ls h before n h' rows (Some End) e rec = grind (arith, common_steps, unless_ok, ok_is, append-nil)
  line_faultless ls h before n h' rows _ e rec = absurd cc

  body_faultless : (ls : List (List ℕ)) (h : H) (before : List I) (n : ℕ) (h' : H) (rows : List I) →
      section_body_of g h before n ls ≡ Ok (h', rows) → BodyFaultless h before h' rows
  unfolding section_body_of
  body_faultless [] h before n h' rows e = absurd cc
  body_faultless (l ∷ ls) h before n h' rows e =
      line_faultless ls h before n h' rows (g.form (words_of l)) e
      (λ i. body_faultless ls h (before ++ i ∷ []) (n + 1) h' rows)

  header_faultless : (ls : List (List ℕ)) (n : ℕ) (h : H) (rows : List I) (o : Option (Form H I)) →
      result_after_header g n (λ k. section_body_of g k [] (n + 1) ls) o ≡ Ok (h, rows) → IsFaultless h rows
  header_faultless ls n h rows (Some (Header k)) e =
      let good = unless_ok n (g.header_fault k) (section_body_of g k [] (n + 1) ls) (h, rows) e in
      let t = body_faultless ls k [] (n + 1) h rows good.1 in
      grind (arith, common_steps)
  header_faultless ls n h rows _ e = absurd cc

  pub read_faultless : (n : ℕ) (ls : List (List ℕ)) (h : H) (rows : List I) → section_of g n ls ≡ Ok (h, rows) →
      IsFaultless h rows
  unfolding section_of
  read_faultless n [] h rows e = absurd cc
  read_faultless n (l ∷ ls) h rows e = header_faultless ls n h rows (g.form (words_of l)) e

  -- what a reader answered is good
  module _ {A : Type 0} (view : A → H × List I) (old new : FeedView) (a : A)
      (reads : Reads g view old new (Ok a)) where
    faultless_by : (stop : Option ReadFault) → old.stop ≡ stop → IsFaultless (view a).0 (view a).1
    faultless_by (Some fault) e = absurd (reads.stopped fault e).0
    faultless_by None e = read_faultless old.taken (ahead old) (view a).0 (view a).1 (reads.reads e).gives

    pub reads_faultless : IsFaultless (view a).0 (view a).1
    reads_faultless = faultless_by old.stop refl
