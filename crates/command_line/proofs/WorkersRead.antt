-- The number that `get_one` reads of `--workers` is the one that the words ask for.
use Rattle.lemmas.proofs.Common.{[], ◌≡◌, ◌≤◌, Err, List, None, Ok, Option, Result, Some, arith, codes, option_map}
use Rattle.lemmas.proofs.Common.{refl, unwrap_or, ℕ, bytes_eq-Decides, common_steps, option_map_or}
use Rattle.std.specs.Str.Parse.{ParsesUnsigned}
use Rattle.clap.specs.Words.{IsUnsignedIn, ReadsOne, Row, Text, fault_of, one_of, subcommand_name_of, subcommand_of}
use Rattle.clap.specs.Words.{subcommand_rows_of}
use Rattle.clap.specs.declared.parser.matches.ArgMatches.{ArgMatches}
use Rattle.clap.specs.declared.parser.matches.ArgMatches.TheViews.{out-ArgMatches}
use Rattle.command_line.specs.CommandLine.{bbmcheck_app, number_in, workers_asked, workers_text}
use Rattle.command_line.proofs.WorkersPass.{workers_pass}

-- the number that the words ask for is in the option's range
pub asked_in_range : (words : List Text) → fault_of bbmcheck_app words ≡ [] →
    (1 ≤ workers_asked words) × (workers_asked words ≤ 64)
asked_in_range words none = go (workers_text words) refl
  where
    go : (o : Option Text) → workers_text words ≡ o
        → (1 ≤ option_map_or number_in o 1) × (option_map_or number_in o 1 ≤ 64)
    go None is = (omega arith, omega arith)
    go (Some t) is =
        let pass = workers_pass words t none is in
        (pass.2, pass.3)

-- a text that passes the option's parser reads as its digits
reads_digits : (E : Type 0) (gives : Text → Result ℕ E → Type 0) →
    ((u : Text) (x : Result ℕ E) → gives u x → ParsesUnsigned 64 10 u x)
    → (t : Text) → IsUnsignedIn 1 64 t → (r : Option ℕ) → ReadsOne gives t r → unwrap_or r 1 ≡ number_in t
reads_digits E gives only t pass (Some n) read = (only t (Ok n) read).1
reads_digits E gives only t pass None read = absurd (only t (Err read.0) read.1 (pass.0, pass.1))

-- and so what is read of the option's text is the number that the words ask for
pub number_read : (E : Type 0) (gives : Text → Result ℕ E → Type 0) →
    ((u : Text) (x : Result ℕ E) → gives u x → ParsesUnsigned 64 10 u x) → (words : List Text) →
    fault_of bbmcheck_app words ≡ [] → (text : Option Text) → workers_text words ≡ text → (r : Option ℕ) →
    (text ≡ None → r ≡ None) → ((t : Text) → text ≡ Some t → ReadsOne gives t r) → unwrap_or r 1 ≡ workers_asked words
number_read E gives only words none None is r missing read = rw (missing refl, is) refl
number_read E gives only words none (Some t) is r missing read =
    rw is (reads_digits E gives only t (workers_pass words t none is) r (read t refl))

-- ---- the command

map_twice : {X Y Z : Type 0} (f : X → Y) (g : Y → Z) (o : Option X) →
    option_map (λ x. g (f x)) o ≡ option_map g (option_map f o)
map_twice f g None = refl
map_twice f g (Some x) = refl

-- the command's name, by its rows
pub name_by_rows : (m : ArgMatches) → subcommand_name_of m ≡ option_map (λ p. p.0) (subcommand_rows_of m)
name_by_rows m = map_twice _ (λ (p : Text × List Row). p.0) (out-ArgMatches m).subcommand

-- where `check` was met, the text is that of its rows
pub text_of_check : (words : List Text) (met : Option (Text × List Row)) (rows : List Row) →
    met ≡ subcommand_of bbmcheck_app words
    → option_map (λ p. p.0) met ≡ Some (codes "check") → option_map (λ p. p.1) met ≡ Some rows →
    workers_text words ≡ one_of (codes "workers") rows
text_of_check words None rows is name own = cc
text_of_check words (Some r) rows is name own = grind (arith, common_steps, bytes_eq-Decides)

-- and where it was not, there is none
pub no_text : (words : List Text) (met : Option (Text × List Row)) → met ≡ subcommand_of bbmcheck_app words
    → (option_map (λ p. p.0) met ≡ Some (codes "check") → ⊥) → workers_text words ≡ None
no_text words None is other = rw (← is) refl
no_text words (Some r) is other = grind (arith, common_steps, bytes_eq-Decides)
