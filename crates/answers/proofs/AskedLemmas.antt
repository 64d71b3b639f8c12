-- The result of reading a text of two sections.
use Rattle.lemmas.proofs.Common.{[], ◌+◌, ◌∙◌, ◌≡◌, ◌≢◌, Err, List, None, Ok, Result, ap, drop, subst, sym, ℕ}
use Rattle.section_text.specs.Words.{lines_of, bytes_after_last_line_feed}
use Rattle.section_text.specs.declared.limits.Limits.{Limits}
use Rattle.section_text.specs.Limits.{limits_line_count}
use Rattle.section_text.specs.Feeds.{FeedView, ahead}
use Rattle.section_text.specs.Section.{Grammar, Reads, FailsAsReading}
use Rattle.section_text.specs.Sections.{section_then, value_if_at_end}
use Rattle.section_text.specs.Faults.{refusal}
use Rattle.section_text.specs.declared.fault.Refusal.{Refusal}
use Rattle.section_text.specs.declared.fault.ReadFault.{ReadFault}
use Rattle.section_text.specs.declared.fault.ReadFault.TheVariants.{Refused, Memory}
use Rattle.section_text.proofs.Joined.{section_read, section_failed, same_text, still_going, fails_along, at_the_end}
use Rattle.section_text.proofs.Joined.{more_fails}
use Rattle.pattern.specs.Assign.{assign_grammar}
use Rattle.answers.specs.Answers.{names_on_from_last_section, value_and_names_on, pair_with_result}
use Rattle.section_text.specs.declared.code.RefusalCode.TheVariants.{TextCut}

-- ---- the names that are on, and the end

module _ {A : Type 0} (view : A → Unit {0} × List (List ℕ)) (names : List (List ℕ)) (old mid : FeedView)
    (going : old.stop ≡ None) where
  last : List ℕ → Unit {0} → List (List ℕ) → ℕ → List (List ℕ) → Result (List (List ℕ)) Refusal
  last text _ on m rest = value_if_at_end m rest (bytes_after_last_line_feed text) on

  pub names_failed : (fault : ReadFault) → Reads (assign_grammar names) view old mid (Err fault) →
      FailsAsReading fault (names_on_from_last_section old.text names old.taken (ahead old))
  unfolding last
  names_failed fault reads = section_failed (assign_grammar names) view old mid going (last old.text) fault reads

  read_on : (a : A) → Reads (assign_grammar names) view old mid (Ok a) →
      names_on_from_last_section old.text names old.taken (ahead old)
      ≡ value_if_at_end mid.taken (ahead mid) (bytes_after_last_line_feed mid.text) (view a).1
  unfolding last
  read_on a reads =
      section_read (assign_grammar names) view old mid going (last old.text) a reads
      ∙ ap (λ text. value_if_at_end mid.taken (ahead mid) (bytes_after_last_line_feed text) (view a).1)
      (sym (same_text (assign_grammar names) view old mid going (last old.text) a reads))

  pub names_leave_going : (a : A) → Reads (assign_grammar names) view old mid (Ok a) → mid.stop ≡ None
  names_leave_going a reads = still_going (assign_grammar names) view old mid going (last old.text) a reads

  pub text_ends : (a : A) → Reads (assign_grammar names) view old mid (Ok a) → ahead mid ≡ [] →
      bytes_after_last_line_feed mid.text ≡ [] →
      names_on_from_last_section old.text names old.taken (ahead old) ≡ Ok ((view a).1)
  text_ends a reads none nothing =
      read_on a reads ∙ at_the_end mid.taken (ahead mid) (bytes_after_last_line_feed mid.text) ((view a).1) none nothing

  pub text_goes_on : (a : A) (fault : ReadFault) → Reads (assign_grammar names) view old mid (Ok a) →
      (ahead mid ≡ [] → bytes_after_last_line_feed mid.text ≢ []) → fault ≡ refusal (mid.taken + 1) TextCut →
      FailsAsReading fault (names_on_from_last_section old.text names old.taken (ahead old))
  text_goes_on a fault reads more is =
      fails_along fault (names_on_from_last_section old.text names old.taken (ahead old))
      (value_if_at_end mid.taken (ahead mid) (bytes_after_last_line_feed mid.text) ((view a).1)) (read_on a reads)
      (more_fails mid.taken (ahead mid) (bytes_after_last_line_feed mid.text) ((view a).1) fault more is)

-- ---- the first section, and then the names

with_fails : {A B : Type 0} (value : A) (fault : ReadFault) (read : Result B Refusal) → FailsAsReading fault read →
    FailsAsReading fault (pair_with_result value read)
with_fails value Memory read fails = tt
with_fails value (Refused r) read fails = ap (pair_with_result value) fails

module _ {H I A V : Type 0} (g : Grammar H I) (view : A → H × List I) (value : H → List I → V)
    (names : H → List I → List (List ℕ)) (l : Limits) (old mid : FeedView) (unread : old.taken ≡ limits_line_count l)
    (going : old.stop ≡ None) where
  abbrev asked : List ℕ → Result (V × List (List ℕ)) Refusal
  asked text = section_then g (limits_line_count l) (drop (limits_line_count l) (lines_of text))
      (λ h items n ahead. value_and_names_on text (value h items) (names h items) n ahead)

  abbrev then_names : List ℕ → H → List I → ℕ → List (List ℕ) → Result (V × List (List ℕ)) Refusal
  then_names text h items n ahead = value_and_names_on text (value h items) (names h items) n ahead

  from_first : section_then g old.taken (ahead old) (then_names old.text) ≡ asked old.text
  from_first = ap (λ n. section_then g n (drop n (lines_of old.text)) (then_names old.text)) unread

  pub first_failed : (fault : ReadFault) → Reads g view old mid (Err fault) → FailsAsReading fault (asked old.text)
  first_failed fault reads = subst (FailsAsReading fault) from_first
      (section_failed g view old mid going (then_names old.text) fault reads)

  first_read : (a : A) → Reads g view old mid (Ok a) →
      asked old.text ≡ value_and_names_on mid.text (value (view a).0 (view a).1) (names (view a).0 (view a).1) mid.taken
      (ahead mid)
  first_read a reads =
      sym from_first
      ∙ section_read g view old mid going (then_names old.text) a reads
      ∙ ap (λ text. value_and_names_on text (value (view a).0 (view a).1) (names (view a).0 (view a).1) mid.taken
      (ahead mid))
      (sym (same_text g view old mid going (then_names old.text) a reads))

  pub then_failed : (a : A) (these : List (List ℕ)) (fault : ReadFault) → Reads g view old mid (Ok a) →
      these ≡ names (view a).0 (view a).1 →
      FailsAsReading fault (names_on_from_last_section mid.text these mid.taken (ahead mid)) →
      FailsAsReading fault (asked old.text)
  then_failed a these fault reads same fails =
      fails_along fault (asked old.text)
      (pair_with_result (value (view a).0 (view a).1) (names_on_from_last_section mid.text these mid.taken (ahead mid)))
      (first_read a reads ∙ ap (λ k. value_and_names_on mid.text (value (view a).0 (view a).1) k mid.taken (ahead mid))
      (sym same))
      (with_fails (value (view a).0 (view a).1) fault
      (names_on_from_last_section mid.text these mid.taken (ahead mid)) fails)

  pub then_read : (a : A) (these on : List (List ℕ)) → Reads g view old mid (Ok a) →
      these ≡ names (view a).0 (view a).1 → names_on_from_last_section mid.text these mid.taken (ahead mid) ≡ Ok on →
      asked old.text ≡ Ok (value (view a).0 (view a).1, on)
  then_read a these on reads same read =
      first_read a reads ∙ ap (λ k. value_and_names_on mid.text (value (view a).0 (view a).1) k mid.taken (ahead mid))
      (sym same) ∙ ap (pair_with_result (value (view a).0 (view a).1)) read
