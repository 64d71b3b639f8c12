-- Readers one after the other read sections one after the other.
use Rattle.section_text.proofs.Imports.{Err, FailsAsReading, FeedView, Grammar, List, None, Ok, ReadFault, Reads}
use Rattle.section_text.proofs.Imports.{Refusal, Result, TextCut, [], ahead, ap, arith, common_steps, drop-drop, refl}
use Rattle.section_text.proofs.Imports.{refusal, refused_at, section_of, subst, sym, ℕ, ◌+◌, ◌∙◌, ◌≡◌}
use Rattle.lemmas.proofs.Common.{◌≢◌}
use Rattle.section_text.specs.Sections.{section_then, value_if_at_end}

module _ {H I A B : Type 0} (g : Grammar H I) (view : A → H × List I) (old new : FeedView) (going : old.stop ≡ None)
    (next : H → List I → ℕ → List (List ℕ) → Result B Refusal) where
  -- the section was read: what comes of it comes of the feed after it
  pub section_read : (a : A) → Reads g view old new (Ok a) →
      section_then g old.taken (ahead old) next ≡ next (view a).0 (view a).1 new.taken (ahead new)
  section_read a reads = grind (arith, common_steps, drop-drop)

  pub still_going : (a : A) → Reads g view old new (Ok a) → new.stop ≡ None
  still_going a reads = ap (λ (f : FeedView). f.stop) ((reads.reads going).after) ∙ going

  pub same_text : (a : A) → Reads g view old new (Ok a) → new.text ≡ old.text
  same_text a reads = ap (λ (f : FeedView). f.text) ((reads.reads going).after)

  -- the section was not read: the fault is that of all
  fails_first : (fault : ReadFault) → FailsAsReading fault (section_of g old.taken (ahead old)) →
      FailsAsReading fault (section_then g old.taken (ahead old) next)
  fails_first fault h1 = grind (arith, common_steps)

  pub section_failed : (fault : ReadFault) → Reads g view old new (Err fault) →
      FailsAsReading fault (section_then g old.taken (ahead old) next)
  section_failed fault reads = fails_first fault ((reads.reads going).gives)

-- a fault of what comes later
pub fails_along : {B : Type 0} (fault : ReadFault) (early late : Result B Refusal) → early ≡ late →
    FailsAsReading fault late → FailsAsReading fault early
fails_along fault early late e fails = subst (FailsAsReading fault) (sym e) fails

-- ---- the end of the text

pub at_the_end : {B : Type 0} (n : ℕ) (ls : List (List ℕ)) (rest : List ℕ) (value : B) → ls ≡ [] → rest ≡ [] →
    value_if_at_end n ls rest value ≡ Ok value
at_the_end n ls rest value none nothing = rw (none, nothing) refl

pub goes_on : {B : Type 0} (n : ℕ) (ls : List (List ℕ)) (rest : List ℕ) (value : B) → (ls ≡ [] → rest ≢ []) →
    value_if_at_end n ls rest value ≡ refused_at n TextCut
goes_on n ls rest value h1 = grind (arith, common_steps)

pub more_fails : {B : Type 0} (n : ℕ) (ls : List (List ℕ)) (rest : List ℕ) (value : B) (fault : ReadFault) →
    (ls ≡ [] → rest ≢ []) → fault ≡ refusal (n + 1) TextCut → FailsAsReading fault (value_if_at_end n ls rest value)
more_fails n ls rest value fault more is = rw is (goes_on n ls rest value more)
