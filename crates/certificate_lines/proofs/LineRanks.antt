-- The ranks of lines: lines in order rise by rank, and the lines of one kind have one rank.
use Rattle.certificate_lines.proofs.Imports.{CertificateLine, Greater, [], arith, common_steps, edge_in, false, halo_in}
use Rattle.certificate_lines.proofs.Imports.{is_cut_line, kept_gate_in, line_cmp, may_precede, nat_tests, rank_of}
use Rattle.certificate_lines.proofs.Imports.{stop_in, sym, true, used_gate_in, ◌&&◌, ◌<◌, ◌==◌, ◌≡◌, ◌≤◌}
use Rattle.lemmas.proofs.Common.{◌≢◌}
use Rattle.std.specs.Cmp.{nat_cmp_is}
use Rattle.bbm_rule.proofs.BitLemmas.{by_lt_or_le}

-- cuts have a rank of their own
pub cut_rank : (i : CertificateLine) → is_cut_line i ≡ (rank_of i == 1)
unfolding is_cut_line rank_of
cut_rank i = grind (arith, common_steps)

not_both_cuts : (i j : CertificateLine) → rank_of j < rank_of i → (is_cut_line i && is_cut_line j) ≡ false
not_both_cuts i j lt = grind (arith, common_steps, cut_rank, nat_tests)

no_higher_first : (i j : CertificateLine) → rank_of j < rank_of i → may_precede i j ≡ false
unfolding may_precede line_cmp
no_higher_first i j lt = rw (sym (nat_cmp_is (rank_of i) (rank_of j) Greater lt)) (not_both_cuts i j lt)

pub rank_rises : (i j : CertificateLine) → may_precede i j ≡ true → rank_of i ≤ rank_of j
rank_rises i j h = grind (arith, common_steps, by_lt_or_le, no_higher_first)

pub only_uses : (i : CertificateLine) → rank_of i ≢ 2 → used_gate_in i ≡ []
unfolding rank_of
only_uses i h1 = grind (arith, common_steps)

pub only_keeps : (i : CertificateLine) → rank_of i ≢ 3 → kept_gate_in i ≡ []
unfolding rank_of
only_keeps i h1 = grind (arith, common_steps)

pub only_edges : (i : CertificateLine) → rank_of i ≢ 4 → edge_in i ≡ []
unfolding rank_of
only_edges i h1 = grind (arith, common_steps)

pub only_halos : (i : CertificateLine) → rank_of i ≢ 5 → halo_in i ≡ []
unfolding rank_of
only_halos i h1 = grind (arith, common_steps)

pub only_stops : (i : CertificateLine) → rank_of i ≢ 6 → stop_in i ≡ []
unfolding rank_of
only_stops i h1 = grind (arith, common_steps)
