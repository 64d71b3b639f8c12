-- The tables of a reader of layouts, for the lines so far.
use Rattle.pattern.proofs.Imports.{Bool, LayoutLine, List, None, Option, PortNameLists, SomethingMissing, [], ap, arith}
use Rattle.pattern.proofs.Imports.{code_if, common_steps, has, largest_limit_code, line_fault, list_all, list_any}
use Rattle.pattern.proofs.Imports.{missing_port_fault, name_fault, not, order_fault, port_name_lists, refl, sym, ℕ}
use Rattle.pattern.proofs.Imports.{◌&&◌, ◌∙◌, ◌∷◌, ◌≡◌}
use Rattle.lemmas.proofs.Common.{Global, Vec}
use Rattle.section_text.specs.Codes.{or_else}
use Rattle.section_text.specs.declared.ports.PortNames.{PortNames}
use Rattle.section_text.specs.declared.ports.PortNames.TheVariants.{Any, Only}
use Rattle.pattern.specs.Lines.{is_input_cell_named, is_output_cell_named}
use Rattle.section_text.proofs.Codes.{no_code_first, no_code_second}

module _ (ports : Option PortNameLists) (before : List LayoutLine) (part : LayoutLine)
    (good : line_fault ports before part ≡ None) where
  pub in_order : order_fault before part ≡ None
  unfolding line_fault
  in_order = no_code_first (order_fault before part) (or_else (largest_limit_code part) (name_fault ports part)) good

  pub in_limits : largest_limit_code part ≡ None
  unfolding line_fault
  in_limits = grind (arith, common_steps, no_code_first, no_code_second)

-- the same names pass two tests
all_same : (p q : List ℕ → Bool) → ((n : List ℕ) → p n ≡ q n) → (names : List (List ℕ)) →
    list_all p names ≡ list_all q names
all_same p q same [] = refl
all_same p q same (n ∷ names) = ap (λ b. b && list_all p names) (same n) ∙ ap (λ b. q n && b) (all_same p q same names)

-- what is missing at the end
module _ (ports : PortNames) (parts : List LayoutLine) where
  pub none_missing : ports ≡ Any → None ≡ missing_port_fault (port_name_lists ports) parts
  unfolding missing_port_fault
  none_missing any = rw any refl

  module _ (ins outs : Vec (List ℕ) Global) (seen_ins seen_outs : List (List ℕ)) (only : ports ≡ Only ins outs)
      (same_ins : (n : List ℕ) → has seen_ins n ≡ list_any (is_input_cell_named n) parts)
      (same_outs : (n : List ℕ) → has seen_outs n ≡ list_any (is_output_cell_named n) parts) where
    all_seen : (list_all (λ n. has seen_ins n) ins.items && list_all (λ n. has seen_outs n) outs.items)
        ≡ (list_all (λ n. list_any (is_input_cell_named n) parts) ins.items
        && list_all (λ n. list_any (is_output_cell_named n) parts) outs.items)
    all_seen = grind (arith, common_steps, all_same)

    pub missing_by : (b : Bool) →
        (list_all (λ n. has seen_ins n) ins.items && list_all (λ n. has seen_outs n) outs.items) ≡ b →
        code_if (not b) SomethingMissing ≡ missing_port_fault (port_name_lists ports) parts
    unfolding missing_port_fault
    missing_by b e = rw only (ap (λ k. code_if (not k) SomethingMissing) (sym e ∙ all_seen))
