-- What an outcome means for a text, of what a reader had to give and of what a writer holds.
use Rattle.check_main.proofs.Imports.{Appends, Consumes, Err, HoldsOfKnownInput, IfErr, IfOk, List, None, Ok, OnOk}
use Rattle.check_main.proofs.Imports.{Option, Outcome, RelatesReadToWritten, Result, Some, Yes, YesMeans, YesPromises}
use Rattle.check_main.proofs.Imports.{[], ap, arith, subst, sym, ℕ, ◌++◌, ◌∙◌, ◌≡◌}
use Rattle.lemmas.proofs.Common.{◌↔◌, append-nil, IsAtEnd, append_cancel_left}
use Rattle.meaning.specs.Streams.{FourthLineSaysYes}
use Rattle.headline.proofs.FourthLines.{says_on}
use Rattle.std.specs.Result.{IsErrOf}
use Rattle.check_main.specs.Stream.{AppendsProperPrefix, BreaksOff, ReadsAll}
use Rattle.check_main.specs.declared.fault.CheckFault.{CheckFault}
use Rattle.check_main.specs.declared.fault.CheckFault.TheVariants.{Write}

all_read : (left left' : Option (List ℕ)) (text known : List ℕ) → left ≡ Some known → Consumes left left' text →
    IsAtEnd left' → text ≡ known
all_read None left' text known e given ended = absurd cc
all_read (Some xs) None text known e given ended = absurd given
all_read (Some xs) (Some ys) text known e given ended =
    let own : xs ≡ known = cc in
    sym (append-nil text) ∙ ap (λ t. text ++ t) (sym ended) ∙ sym given ∙ own

given : (P : List ℕ → Type 0) (left left' : Option (List ℕ)) (text : List ℕ) → ReadsAll left left' text → P text →
    HoldsOfKnownInput P left
given P left left' text read right known e = subst P (all_read left left' text known e read.given read.ended) right

taken_is : (written_bytes written_bytes' : Option (List ℕ)) (before more taken : List ℕ) → written_bytes ≡ Some before →
    written_bytes' ≡ Some (before ++ more) → Appends written_bytes written_bytes' taken → more ≡ taken
taken_is None written_bytes' before more taken e f appended = absurd cc
taken_is (Some xs) None before more taken e f appended = absurd appended
taken_is (Some xs) (Some ys) before more taken e f appended =
    let own : xs ≡ before = cc in
    let now : ys ≡ before ++ more = cc in
    append_cancel_left before more taken (sym now ∙ appended ∙ ap (λ t. t ++ taken) own)

-- the first bytes of an output were written, or all of them, and a yes of the output means P
said_right : (P : List ℕ → Type 0) (left left' written_bytes written_bytes' : Option (List ℕ))
    (text output taken rest : List ℕ) → (FourthLineSaysYes output → P text) → ReadsAll left left' text →
    output ≡ taken ++ rest → Appends written_bytes written_bytes' taken → YesMeans P left written_bytes written_bytes'
said_right P left left' written_bytes written_bytes' text output taken rest holds read whole appended
    before more f g line known e =
    let is = taken_is written_bytes written_bytes' before more taken f g appended in
    given P left left' text read (holds
    (subst FourthLineSaysYes (sym whole) (says_on taken rest (subst FourthLineSaysYes is line)))) known
    e

-- all of it was
all_said_right : (P : List ℕ → Type 0) (left left' written_bytes written_bytes' : Option (List ℕ))
    (text output : List ℕ) → (FourthLineSaysYes output → P text) → ReadsAll left left' text →
    Appends written_bytes written_bytes' output → YesMeans P left written_bytes written_bytes'
all_said_right P left left' written_bytes written_bytes' text output holds read appended =
    said_right P left left' written_bytes written_bytes' text output output [] holds read (sym (append-nil output))
    appended

nothing_says : FourthLineSaysYes [] → ⊥
nothing_says e = let more = e.1 in omega (arith, more)

-- nothing was
nothing_said : (P : List ℕ → Type 0) (left written_bytes written_bytes' : Option (List ℕ)) →
    written_bytes' ≡ written_bytes → YesMeans P left written_bytes written_bytes'
nothing_said P left written_bytes written_bytes' same before more f g line text e =
    let both : ◌≡◌ {A = Option (List ℕ)} (Some (before ++ more)) (Some before) = sym g ∙ same ∙ f in
    let own : before ++ more ≡ before = cc in
    absurd (nothing_says (subst FourthLineSaysYes
    (append_cancel_left before more [] (own ∙ sym (append-nil before))) line))

-- a writer was told the output, or its first bytes
written_right : {E : Type 0} (P : List ℕ → Type 0) (left left' written_bytes written_bytes' : Option (List ℕ))
    (text output : List ℕ) → (FourthLineSaysYes output → P text) → ReadsAll left left' text →
    (result : Result Outcome E) → OnOk result (Appends written_bytes written_bytes' output) →
    IfErr result (λ e. AppendsProperPrefix written_bytes written_bytes' output) →
    YesMeans P left written_bytes written_bytes'
written_right P left left' written_bytes written_bytes' text output holds read (Ok o) all front =
    all_said_right P left left' written_bytes written_bytes' text output holds read all
written_right P left left' written_bytes written_bytes' text output holds read (Err e) all front =
    said_right P left left' written_bytes written_bytes' text output front.taken front.rest holds read front.whole
    front.appended

-- and it ended with the outcome of the answer, which means P if it is the one that is wanted
pub outcome_means : {E : Type 0} (P : List ℕ → Type 0) (wanted : Outcome) (left left' : Option (List ℕ)) (text : List ℕ)
    (outcome : Outcome) → (outcome ≡ wanted → P text) → ReadsAll left left' text → (result : Result Outcome E) →
    result ≡ Ok wanted → IfOk result (λ o. o ≡ outcome) → HoldsOfKnownInput P left
outcome_means P wanted left left' text outcome holds read (Ok o) is same =
    let wanted_is : o ≡ wanted = cc in
    given P left left' text read (holds (sym same ∙ wanted_is))
outcome_means P wanted left left' text outcome holds read (Err e) is same = absurd cc

-- the promise of a yes, if the output was written, or its first bytes
pub yes_promised : {E : Type 0} (P : List ℕ → Type 0) (left left' written_bytes written_bytes' : Option (List ℕ))
    (text output : List ℕ) (outcome : Outcome) → FourthLineSaysYes output ↔ (outcome ≡ Yes) → (outcome ≡ Yes → P text) →
    ReadsAll left left' text → (result : Result Outcome E) → IfOk result (λ o. o ≡ outcome) →
    OnOk result (Appends written_bytes written_bytes' output) →
    IfErr result (λ e. AppendsProperPrefix written_bytes written_bytes' output) →
    YesPromises P (result ≡ Ok Yes) left written_bytes written_bytes'
yes_promised P left left' written_bytes written_bytes' text output outcome line holds read result same all front =
    record {
      by_end = λ is. outcome_means P Yes left left' text outcome holds read result is same;
      by_line = written_right P left left' written_bytes written_bytes' text output (λ yes. holds (line.0 yes)) read
          result all front;
    }

-- and if nothing was written, and there was no yes
pub nothing_promised : (P : List ℕ → Type 0) (EndsAsYes : Type 0)
    (left written_bytes written_bytes' : Option (List ℕ)) →
    ¬ EndsAsYes → written_bytes' ≡ written_bytes → YesPromises P EndsAsYes left written_bytes written_bytes'
nothing_promised P EndsAsYes left written_bytes written_bytes' unsaid same = record {
  by_end = λ yes. absurd (unsaid yes);
  by_line = nothing_said P left written_bytes written_bytes' same;
}

-- and all of the output was written, which P relates to the text
pub outcome_tells : {E : Type 0} (P : List ℕ → List ℕ → Type 0) (wanted : Outcome)
    (left left' written_bytes written_bytes' : Option (List ℕ)) (text output : List ℕ) (outcome : Outcome) →
    (outcome ≡ wanted → P text output) → ReadsAll left left' text → (result : Result Outcome E) → result ≡ Ok wanted →
    IfOk result (λ o. o ≡ outcome) → OnOk result (Appends written_bytes written_bytes' output) →
    RelatesReadToWritten P left written_bytes written_bytes'
outcome_tells P wanted left left' written_bytes written_bytes' text output outcome holds read (Ok o) is same all
    known before more e f g =
    let wanted_is : o ≡ wanted = cc in
    let own : more ≡ output = taken_is written_bytes written_bytes' before more output f g all in
    subst (λ t. P t more) (all_read left left' text known e read.given read.ended)
    (subst (P text) (sym own) (holds (sym same ∙ wanted_is)))
outcome_tells P wanted left left' written_bytes written_bytes' text output outcome holds read (Err e') is same all
    known before more e f g = absurd cc

-- an output was not written whole: its first bytes were
pub broken_off : (R : List ℕ → List ℕ → Outcome → Type 0) (left left' written written' : Option (List ℕ))
    (text output : List ℕ) (outcome : Outcome) (result : Result Outcome CheckFault) → ReadsAll left left' text →
    R text output outcome → IfErr result (λ _. AppendsProperPrefix written written' output) → IsErrOf result Write →
    BreaksOff R left left' written written'
broken_off R left left' written written' text output outcome (Ok _) read right prefix is = absurd cc
broken_off R left left' written written' text output outcome (Err fault) read right prefix is = record {
  text = text;
  output = output;
  outcome = outcome;
  read = read;
  right = right;
  written = prefix;
}
