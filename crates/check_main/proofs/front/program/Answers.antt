-- The command ran, or memory ran out before it did, or the words are explained.
use Rattle.check_main.proofs.Imports.{CheckFault, Err, IsRightInFull, Kinds, List, Memory, No, Ok, Option, Outcome}
use Rattle.check_main.proofs.Imports.{RanCommand, Refused, Result, Streams, Yes, YesPromises, [], ap, arith, inl, inr}
use Rattle.check_main.proofs.Imports.{refl, status_for, subst, sym, ℕ, ◌∙◌, ◌≡◌, ◌⊎◌}
use Rattle.clap.specs.Words.{HasKind, IsAmong, kind_of}
use Rattle.clap.specs.declared.error.Error.{Error}
use Rattle.clap.specs.declared.error.kind.ErrorKind.TheVariants.{DisplayHelp, DisplayVersion, OutOfMemory}
use Rattle.command_line.specs.declared.Request.{Request}
use Rattle.check_main.specs.Program.{IsHelpOrVersion}
use Rattle.check_main.proofs.Ends.{outcome_of}
use Rattle.check_main.proofs.RightStreams.{nothing_promised}
use Rattle.streams.specs.declared.streams.Source.{Ghosts as Source}
use Rattle.streams.specs.declared.streams.Sink.{Ghosts as Sink}
use Rattle.check_main.proofs.front.program.Goals as goal

of_memory : (kinds : Kinds) (error : Error) → kinds ≡ [] → HasKind kinds error → kind_of error ≡ OutOfMemory
of_memory kinds error none (inl memory) = memory
of_memory kinds error none (inr among) = absurd (subst (λ (k : Kinds). IsAmong (kind_of error) k) none among)

-- an error that is help is among the kinds
help_is_asked : (kinds : Kinds) (error : Error) → IsHelpOrVersion (kind_of error) → HasKind kinds error →
    IsAmong DisplayHelp kinds ⊎ IsAmong DisplayVersion kinds
help_is_asked kinds error (inl help) (inl memory) = absurd cc
help_is_asked kinds error (inl help) (inr among) = inl (subst (λ k. IsAmong k kinds) help among)
help_is_asked kinds error (inr version) (inl memory) = absurd cc
help_is_asked kinds error (inr version) (inr among) = inr (subst (λ k. IsAmong k kinds) version among)

-- a command ran, whatever its request is called
ran_for : {R W E : Type 0} {source : Source R} {sink : Sink W} {messages : Sink E} (asked wanted : Request)
    (old new : Streams R W E) (status : ℕ) → asked ≡ wanted → RanCommand source sink messages asked old new status →
    RanCommand source sink messages wanted old new status
ran_for {source} {sink} {messages} asked wanted old new status same ran =
    subst (λ (request : Request). RanCommand source sink messages request old new status) same ran

pub returns-in-Ok-clause-ran : goal.returns-in-Ok-clause-ran
returns-in-Ok-clause-ran g c accepted = ran_for _ _ _ _ _ c.in-Ok.ensures.request (record {
  ended = c.run_request-ended.result;
  served = c.run_request-ended.ensures.serves;
  status_of_end = c.write_fault_and_get_status.ensures.status;
  said = c.write_fault_and_get_status.ensures.fault_line_written;
  quiet = c.write_fault_and_get_status.ensures.errors_unchanged;
})

-- the promise of a yes, by the status
promised : {P : List ℕ → Type 0} {left written_bytes written_bytes' : Option (List ℕ)}
    (ended : Result Outcome CheckFault) (status : ℕ) → status ≡ status_for ended →
    YesPromises P (ended ≡ Ok Yes) left written_bytes written_bytes' →
    YesPromises P (status ≡ 0) left written_bytes written_bytes'
promised ended status is promise = record {
  by_end = λ zero. promise.by_end (outcome_of Yes ended (sym is ∙ zero));
  by_line = promise.by_line;
}

pub returns-in-Ok-clause-in_full : goal.returns-in-Ok-clause-in_full
returns-in-Ok-clause-in_full g c check =
    promised c.run_request-ended.result c.write_fault_and_get_status.result c.write_fault_and_get_status.ensures.status
    (c.run_request-ended.ensures.in_full (c.in-Ok.ensures.request ∙ check.asked))

pub returns-in-Ok-clause-wrong : goal.returns-in-Ok-clause-wrong
returns-in-Ok-clause-wrong g c check one =
    c.run_request-ended.ensures.wrong (c.in-Ok.ensures.request ∙ check.asked)
    (outcome_of No c.run_request-ended.result (sym c.write_fault_and_get_status.ensures.status ∙ one))

pub returns-in-Ok-clause-lines : goal.returns-in-Ok-clause-lines
returns-in-Ok-clause-lines g c check one =
    c.run_request-ended.ensures.lines (c.in-Ok.ensures.request ∙ check.asked)
    (outcome_of No c.run_request-ended.result (sym c.write_fault_and_get_status.ensures.status ∙ one))

pub returns-in-Ok-clause-refused_not_small : goal.returns-in-Ok-clause-refused_not_small
returns-in-Ok-clause-refused_not_small g c check three =
    c.run_request-ended.ensures.refused_not_small (c.in-Ok.ensures.request ∙ check.asked)
    (outcome_of Refused c.run_request-ended.result (sym c.write_fault_and_get_status.ensures.status ∙ three))

pub returns-in-Err-clause-ran : goal.returns-in-Err-clause-ran
returns-in-Err-clause-ran g c accepted =
    let five = c.write_help_or_fault.ensures.memory (of_memory _ c.in-Err.error accepted c.in-Err.ensures.fails) in
    let starved = c.write_help_or_fault.ensures.explains.out_of_memory five in
    record {
      ended = Err Memory;
      served = record {
        answered = tt;
        works = tt;
        read = λ e. absurd cc;
        too_long = λ e. absurd cc;
        write = λ e. absurd cc;
        prefix = λ e. absurd cc;
        unwritten = λ _. starved.0;
      };
      status_of_end = five;
      said = starved.1;
      quiet = tt;
    }

pub returns-in-Err-clause-explained : goal.returns-in-Err-clause-explained
returns-in-Err-clause-explained g c refused =
    let fails = c.in-Err.ensures.fails in
    let explains = c.write_help_or_fault.ensures.explains in
    record {
      unread = refl;
      by_status = record {
        range = explains.range;
        helped = λ zero. let shown = explains.helped zero in
            (help_is_asked _ c.in-Err.error shown.0 fails, shown.1, shown.2);
        refused = λ two. let said = explains.refused two in (
          (λ alone. elim fails [
            | inl memory ↦ let five = c.write_help_or_fault.ensures.memory memory in
                absurd (omega (arith, five, two))
            | inr among ↦ said.0 (alone (kind_of c.in-Err.error) among)
          ]),
          said.1,
        );
        cut_off = λ four. let shown = explains.cut_off four in
            (help_is_asked _ c.in-Err.error shown.0 fails, shown.1, shown.2);
        out_of_memory = explains.out_of_memory;
      };
    }

pub returns-in-Err-clause-in_full : goal.returns-in-Err-clause-in_full
returns-in-Err-clause-in_full g c check =
    let five = c.write_help_or_fault.ensures.memory
    (of_memory _ c.in-Err.error check.accepted c.in-Err.ensures.fails) in
    nothing_promised IsRightInFull _ (g.R.Source.left c.args.streams.now.reader)
    (g.W.Sink.written_bytes c.args.streams.now.writer) (g.W.Sink.written_bytes c.write_help_or_fault.new.writer)
    (λ zero. absurd (omega (arith, five, zero)))
    (ap g.W.Sink.written_bytes (c.write_help_or_fault.ensures.explains.out_of_memory five).0)
