-- Each step of the builder does to the command what clap's definition of it does.
use Rattle.lemmas.proofs.Common.{◌∙◌, ap, ap₂, IfOk-weaker}
use Rattle.clap.specs.Words.{App, Shape, with_subcommand}
use Rattle.command_line.proofs.command.Goals as goal

pub returns : goal.returns
returns c =
    let shape : App → Shape = λ a. a.top in
    let one = c.in_ok-subcommand.ensures.shape c.in_ok-check_command.ensures.no_globals
    ∙ ap₂ with_subcommand c.in_ok-top_command_without_commands.ensures.app
    (ap shape c.in_ok-check_command.ensures.app) in
    let two = c.in_ok-subcommand-2.ensures.shape c.plain_command.ensures.no_globals
    ∙ ap₂ with_subcommand one (ap shape c.plain_command.ensures.app) in
    let three = c.in_ok-subcommand-3.ensures.shape c.plain_command-2.ensures.no_globals
    ∙ ap₂ with_subcommand two (ap shape c.plain_command-2.ensures.app) in
    let four = c.in_ok-subcommand-4.ensures.shape c.plain_command-3.ensures.no_globals
    ∙ ap₂ with_subcommand three (ap shape c.plain_command-3.ensures.app) in
    IfOk-weaker c.subcommand-5.result _ _
    (λ r h. h.shape c.plain_command-4.ensures.no_globals ∙ ap₂ with_subcommand four
    (ap shape c.plain_command-4.ensures.app))
    c.subcommand-5.ensures
