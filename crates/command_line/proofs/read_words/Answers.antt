-- clap's parse succeeds only where nothing is wrong with the words, and then the text of `--workers` is a number that
-- its parser lets through.
use Rattle.lemmas.proofs.Common.{[], ◌∙◌, ◌≡◌, List, None, Option, Some, ap, ap₂, codes, map, option_map, refl, rules}
use Rattle.lemmas.proofs.Common.{sym, true, true≢false, option_map_or}
use Rattle.std.specs.Str.Parse.{ExplainsUnsignedError, HasUnsignedDigitsIfOk, ParsesUnsigned}
use Rattle.clap.specs.Words.{Row, Text, fault_of, found_of, is_simple, is_simple_and_free, one_text, subcommand_of}
use Rattle.clap.specs.Words.{subcommand_rows_of}
use Rattle.command_line.specs.CommandLine.{bbmcheck_app, number_in, request_named}
use Rattle.command_line.specs.declared.Request.TheVariants.{Run}
use Rattle.clap.proofs.OnLiterals.{clap_on_literals}
use Rattle.clap.proofs.WalkLemmas.{one_text-rows}
use Rattle.command_line.proofs.WorkersRead.{asked_in_range, name_by_rows, no_text, number_read, text_of_check}
use Rattle.command_line.proofs.read_words.Goals.{in-Some, in-None}
use Rattle.command_line.proofs.read_words.Goals as goal

is_free : is_simple_and_free bbmcheck_app ≡ true
unfolding clap_on_literals
is_free = refl

simple : is_simple bbmcheck_app ≡ true
unfolding clap_on_literals
simple = refl

pub returns-clause-fails : goal.returns-clause-fails
returns-clause-fails c =
    sym (ap₂ fault_of c.in_ok-command.ensures refl)
    ∙ c.in-Ok.ensures.kinds (ap is_simple_and_free c.in_ok-command.ensures ∙ is_free)

-- the request by the name that was met
by_name : (met : Option (Text × List Row)) (name : Option Text) → name ≡ option_map (λ p. p.0) met
    → option_map_or request_named name Run ≡ option_map_or (λ p. request_named p.0) met Run
by_name None name same = rw same refl
by_name (Some p) name same = rw same refl

pub returns-clause-request : goal.returns-clause-request
returns-clause-request c =
    let words = map (λ s. s.now) c.args.words.now in
    let met : subcommand_rows_of c.in-Ok.matches ≡ subcommand_of bbmcheck_app words =
    (c.in-Ok.ensures.matches (ap is_simple c.in_ok-command.ensures ∙ simple)).1
    ∙ ap₂ subcommand_of c.in_ok-command.ensures refl in
    let name = c.subcommand_name.ensures ∙ name_by_rows c.in-Ok.matches ∙ ap (option_map (λ p. p.0)) met in
    rw (← by_name (subcommand_of bbmcheck_app words) _ name) (search rules)

pub returns-clause-number : goal.returns-clause-number
returns-clause-number c =
    let words = map (λ s. s.now) c.args.words.now in
    let none : fault_of bbmcheck_app words ≡ [] = returns-clause-fails c in
    let met : subcommand_rows_of c.in-Ok.matches ≡ subcommand_of bbmcheck_app words =
    (c.in-Ok.ensures.matches (ap is_simple c.in_ok-command.ensures ∙ simple)).1
    ∙ ap₂ subcommand_of c.in_ok-command.ensures refl in
    let name = sym (name_by_rows c.in-Ok.matches) in
    elim c.match-subcommand_matches.branch [
      | in-Some w ↦
          w.workers-is ∙ w.unwrap_or-workers.ensures
          ∙ number_read _ (λ bs r. ParsesUnsigned 64 10 bs r × ExplainsUnsignedError 10 bs r
          × HasUnsignedDigitsIfOk bs r) (λ u x g. g.0) words none
          (one_text (found_of w.in-Some.options.now) (codes "workers"))
          (text_of_check words _ _ met (name ∙ w.in-Some.ensures.found.0 refl) w.in-Some.ensures.rows
          ∙ sym (one_text-rows (found_of w.in-Some.options.now) (codes "workers")))
          w.get_one.result w.get_one.ensures.none w.get_one.ensures.value
      | in-None w ↦
          w.workers-is
          ∙ sym (ap (λ o. option_map_or number_in o 1)
          (no_text words _ met (λ same. true≢false (sym (w.in-None.ensures.found.1 (sym name ∙ same))))))
    ]

pub returns-clause-workers : goal.returns-clause-workers
returns-clause-workers c = rw (returns-clause-number c)
    (asked_in_range (map (λ s. s.now) c.args.words.now) (returns-clause-fails c))
