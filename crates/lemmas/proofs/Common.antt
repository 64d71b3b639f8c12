-- The names of the standard library and of this crate that proofs use, in one file to import them from.
pub use Rattle.std.proofs.Common.{[], ◌%◌, ◌&&◌, ◌*◌, ◌++◌, ◌+ℤ◌, ◌+◌, ◌-ℤ◌, ◌-◌, ◌/◌, ◌<ℤ◌, ◌<◌, ◌==◌, ◌^◌, ◌||◌, ◌↔◌}
pub use Rattle.std.proofs.Common.{◌∙◌, ◌∷◌, ◌≡◌, ◌≢◌, ◌≤ℤ◌, ◌≤◌, ◌⊎◌, All, Any, Bool, Contains, Equal, Err, Global}
pub use Rattle.std.proofs.Common.{Greater, IfErr, IfNone, IfOk, IfSome, IsFalse, IsSome, IsTrue, Less, List}
pub use Rattle.std.proofs.Common.{MatchOption, None, Ok, OnErr, OnOk, Option, Ordering, Result, SFits, Some, Vec}
pub use Rattle.std.proofs.Common.{add-one, ap, append-nil, append_assoc, ap₂, arith, below_more, bit_and, bit_or}
pub use Rattle.std.proofs.Common.{bit_xor, codes, cond, count_by, drop, drop-cons, drop_of_length-le, encode_utf8}
pub use Rattle.std.proofs.Common.{eq-eqb, eqb, false, filter, find, flat_map, fold, get_or, get_or-append-add}
pub use Rattle.std.proofs.Common.{get_or-set_other, get_or-set_same, if◌then◌else◌, inl, inr, int_cmp, int_eq, is_eq}
pub use Rattle.std.proofs.Common.{is_gt, is_lt, is_some, leb, length, length-append, length-set, length-take-le, ltb}
pub use Rattle.std.proofs.Common.{map, max, min, nat_cmp, nat_eq, nat_le, nat_lt, ne_eqb, negsuc, not, of_z}
pub use Rattle.std.proofs.Common.{option_and_then, option_copied, option_map, option_to_list, pos, position, refl}
pub use Rattle.std.proofs.Common.{replicate, rules, set, slice_get, slice_index, slice_index_or, slice_range, slice_set}
pub use Rattle.std.proofs.Common.{subst, suc, sum_by, sym, take, take-append-drop, to_z, to_z-of_z, true, true≢false}
pub use Rattle.std.proofs.Common.{unwrap_or, vec_capacity, vec_len, w32, w64, zero, ℕ, ℤ, ⊎_elim}
pub use Rattle.std.proofs.Math.Bool.{and-false, and-true, or-false, or-true}
pub use Rattle.std.proofs.Math.ListN.{get_or-eq_default}
pub use Rattle.std.proofs.Math.Logic.{∥∥₁_elim, ∥∥₁_map}
pub use Rattle.std.proofs.Math.Nat.{div-add-mod, div-le_self, div-mul-le_self, lt-div-mul-add, lt_of_mul-lt-mul_right}
pub use Rattle.std.proofs.Math.Nat.{mod-eq_of_lt, mod-lt, mul-add-mod_self_left, mul-le-mul_left, mul-le-mul_right}
pub use Rattle.std.proofs.Math.Nat.{mul_comm, pow-le-pow_right, pow-succ'}
pub use Rattle.std.proofs.Math.Seq.{drop-append_seam, map-set_same, set-append_seam, take-add, take-append_seam}
pub use Rattle.std.proofs.Math.Seq.{take-length, take-suc}
pub use Rattle.std.proofs.Props.{props}
pub use Rattle.std.proofs.lemmas.Bool.{OnTrue_from, and_from, and_parts, cases_Bool, cases_eq, cases_lt, cases_order}
pub use Rattle.std.proofs.lemmas.Bool.{cond-false, cond-true, eqb-false, eqb-true, false_from_ne_true, false≢true}
pub use Rattle.std.proofs.lemmas.Bool.{le-leb, le-ltb, leb-false, leb-true, lt-ltb, ltb-false, ltb-true, not-false}
pub use Rattle.std.proofs.lemmas.Bool.{not-true, not_from_false, or_cases, or_left, or_parts, or_right}
pub use Rattle.std.proofs.lemmas.Bool.Decides.{Decides-eqb, eqb_tells, leb_tells, nat_tests, same_from_decides}
pub use Rattle.std.proofs.lemmas.Cmp.{int_cmp_total, nat_cmp_total, on_total, then_total, tied_itself, upto}
pub use Rattle.std.proofs.lemmas.Grind.{common_steps, flat_map-append}
pub use Rattle.std.proofs.lemmas.Int.{ints}
pub use Rattle.std.proofs.lemmas.List.{append_cancel_left, append_cancel_right, at_drop_more, drop-drop, drop-replicate}
pub use Rattle.std.proofs.lemmas.List.{drop_all, drop_at, drop_more, get_or-append_right, get_or-drop}
pub use Rattle.std.proofs.lemmas.List.{get_or-map, get_or-replicate, get_or-take, get_or_append_left, get_or_at}
pub use Rattle.std.proofs.lemmas.List.{get_or_default, get_or_past, get_or_read, length-drop, length-map}
pub use Rattle.std.proofs.lemmas.List.{length-replicate, length-take, length_push, map-append, map-id, map-set}
pub use Rattle.std.proofs.lemmas.List.{map_push, replicate_more, same_from_push, same_lists, set-set}
pub use Rattle.std.proofs.lemmas.List.{set_comm, take_all, take_at, take_more, take_more_set, take_rest, with_items_is}
pub use Rattle.std.proofs.lemmas.List.Elements.{All-append, All-cons, All-contains, All-contains_itself}
pub use Rattle.std.proofs.lemmas.List.Elements.{All-from_recursion, All-get_or, All-head, All-map, All-nil, All-push}
pub use Rattle.std.proofs.lemmas.List.Elements.{All-same, All-tail, All-weaker, Contains-append_cases}
pub use Rattle.std.proofs.lemmas.List.Elements.{Contains-append_left, Contains-append_right, Contains-push}
pub use Rattle.std.proofs.lemmas.List.Elements.{filter-append}
pub use Rattle.std.proofs.lemmas.List.Folds.{flat_map-map, list_all-append, list_all-map, list_any-append, list_any_at}
pub use Rattle.std.proofs.lemmas.List.FromFn.{filter_of_map_range_with_len_more, get_or-map-range_with_len}
pub use Rattle.std.proofs.lemmas.List.FromFn.{get_or-range_with_len, length-range_with_len, map-range_with_len_more}
pub use Rattle.std.proofs.lemmas.List.Sorted.{All-permutation, IsPermutation-sym, answers_always, ranks_by, sorted_far}
pub use Rattle.std.proofs.lemmas.List.Splits.{join_with_byte-slice_split, length-slice_split, slice_split-cons_no}
pub use Rattle.std.proofs.lemmas.List.Splits.{slice_split-cons_yes, slice_split_at, slice_split_first, slice_split_none}
pub use Rattle.std.proofs.lemmas.List.Sums.{count_by-le-length, fails_before_first, fold_push}
pub use Rattle.std.proofs.lemmas.List.Sums.{position_or_len_is, sum_by-append, sum_by-cons, sum_by-set, sum_by_push}
pub use Rattle.std.proofs.lemmas.Map.Lookups.{CmpEqualImpliesEq, exact_pairs, exact_signed, exact_unsigned}
pub use Rattle.std.proofs.lemmas.Nat.{and_or_self, div-add-mod', div-mul-add, div_below, from_le_bytes-to_le_bytes_2}
pub use Rattle.std.proofs.lemmas.Nat.{from_le_bytes-to_le_bytes_8, mod-mul-add, mod_below, or_comm, pow_pos, shr-shr}
pub use Rattle.std.proofs.lemmas.Nat.{shr_split, xor_comm, xor_lt}
pub use Rattle.std.proofs.lemmas.Nat.Bits.{bit_at-lt, bit_at-suc, bit_at-trailing_zeros, bit_at-zero, bit_at_above}
pub use Rattle.std.proofs.lemmas.Nat.Bits.{bit_at_and, bit_at_cat_high, bit_at_cat_low, bit_at_clear_other}
pub use Rattle.std.proofs.lemmas.Nat.Bits.{bit_at_clear_same, bit_at_lowest, bit_at_not, bit_at_ones, bit_at_or}
pub use Rattle.std.proofs.lemmas.Nat.Bits.{bit_at_set_other, bit_at_set_same, bit_at_xor, same_from_bits, shr_and_one}
pub use Rattle.std.proofs.lemmas.Option.{cond_some, get_or_from_slice_get, option_and_then_some, same_Some}
pub use Rattle.std.proofs.lemmas.Option.{slice_get-get_or, slice_get-map, slice_get_cases, slice_get_past}
pub use Rattle.std.proofs.lemmas.Option.{slice_get_read, slice_get_within, unwrap_or-slice_get}
pub use Rattle.std.proofs.lemmas.Result.{IfOk-weaker, err_from_is_err_and}
pub use Rattle.std.proofs.lemmas.Simd.{get_or-chunk, get_or-put_chunk_above, get_or-put_chunk_at}
pub use Rattle.std.proofs.lemmas.Simd.{get_or-put_chunk_below, get_or-zip2, length-zip2, map-map}
pub use Rattle.std.proofs.lemmas.Slice.Eq.{bytes_eq-Decides, slice_eq-Decides}
pub use Rattle.std.specs.Arc.{arc_value}
pub use Rattle.std.specs.Bool.{Decides, beq, one_answer}
pub use Rattle.std.specs.Cmp.{IsTotalOrder, booleans_Decides}
pub use Rattle.std.specs.Cmp.Lexicographic.{bytes_decides, pointwise, same_text}
pub use Rattle.std.specs.Fmt.{decimal, digit_glyph, digits_onto, signed_decimal}
pub use Rattle.std.specs.Int.{bit_at, bit_not, div_ceil, to_le_bytes, trailing_zeros, w16}
pub use Rattle.std.specs.Int.Bits.{and_lt, and_zero_l, or_zero_l, xor_assoc, xor_self, xor_zero_l, xor_zero_r}
pub use Rattle.std.specs.Int.RustNames.{unsigned_abs}
pub use Rattle.std.specs.Io.KnownBytes.{Appends, Consumes, IsAtEnd, Keeps}
pub use Rattle.std.specs.List.{AllByRecursion, AllZip, join_with_byte, list_all, list_any, onto_first, position_or_len}
pub use Rattle.std.specs.List.{range_with_len, slice_split}
pub use Rattle.std.specs.List.Sorted.{IsPermutation, IsSortedBy}
pub use Rattle.std.specs.Option.{option_eq, option_map_or}
pub use Rattle.std.specs.Ordering.{on, ordering_reverse, ordering_then}
pub use Rattle.std.specs.Prelude.{int_lt, ⊤}
pub use Rattle.std.specs.Result.{is_err}
pub use Rattle.std.specs.Str.{bytes_eq, chars}
pub use Rattle.std.specs.Vec.{with_items}
pub use Rattle.std.specs.Vec.Iter.{into_iter_items, into_iter_len}
pub use Rattle.lemmas.proofs.Booleans.{true_from_not, false_from_not, left_is_false, or_last, left_is_true}
pub use Rattle.lemmas.proofs.Booleans.{right_is_true, same_truth, test_failed, tested_value}
pub use Rattle.lemmas.proofs.Numbers.{at_most_by_test, below_by_test, below_or_from, below_or_same, down_moved}
pub use Rattle.lemmas.proofs.Numbers.{eq_itself, eq_sym, eq_test, int_equal, int_less, less_nat, low_number, lt_test}
pub use Rattle.lemmas.proofs.Numbers.{nat_equal, nat_less, next_neg, not_below_by_test, not_le_test, not_lt_test}
pub use Rattle.lemmas.proofs.Numbers.{place_within, positive, pred_pos, same_or_higher, three_ways, up_moved}
pub use Rattle.lemmas.proofs.Lists.{all_unmapped, begins_with, mapped_at, mapped_from, none_at, nothing_in}
pub use Rattle.lemmas.proofs.Lists.{nothing_prop, one_in, same_bytes, same_head, same_tail, some_at}
pub use Rattle.lemmas.proofs.Orders.{both_ways, then_less}
