-- The names from outside this folder that two or more proofs of this crate use, in one file to import them from.
pub use Rattle.lemmas.proofs.Common.{Bool, Err, List, None, Ok, Option, Result, Some, [], and_parts, ap, append-nil}
pub use Rattle.lemmas.proofs.Common.{append_assoc, ap₂, arith, bytes_eq, bytes_eq-Decides, cases_Bool, codes}
pub use Rattle.lemmas.proofs.Common.{common_steps, cond, cond-false, cond-true, cond_some, decimal, drop, drop-drop}
pub use Rattle.lemmas.proofs.Common.{drop_all, err_from_is_err_and, fails_before_first, false, false≢true, flat_map}
pub use Rattle.lemmas.proofs.Common.{get_or, if◌then◌else◌, inl, inr, join_with_byte, join_with_byte-slice_split}
pub use Rattle.lemmas.proofs.Common.{length, length-append, length-drop, length-slice_split, length_push, list_all}
pub use Rattle.lemmas.proofs.Common.{list_all-append, map, nat_tests, onto_first, option_and_then, option_and_then_some}
pub use Rattle.lemmas.proofs.Common.{option_copied, position, refl, rules, same_Some, slice_get, slice_get_within}
pub use Rattle.lemmas.proofs.Common.{slice_split, slice_split-cons_no, slice_split_first, slice_split_none, subst, suc}
pub use Rattle.lemmas.proofs.Common.{sym, take, take-append-drop, take_all, take_rest, true, zero, ℕ, ◌&&◌, ◌*◌, ◌++◌}
pub use Rattle.lemmas.proofs.Common.{◌+◌, ◌-◌, ◌<◌, ◌==◌, ◌^◌, ◌∙◌, ◌∷◌, ◌≡◌, ◌≤◌, ◌⊎◌}
pub use Rattle.section_text.specs.Faults.{refusal}
pub use Rattle.section_text.specs.Feeds.{FeedView, ahead, feed_after_lines, line_bytes}
pub use Rattle.section_text.specs.SaidSection.{IsSection}
pub use Rattle.section_text.specs.Section.{FailsAsReading, Grammar, IsRefusal, Reads, ReadsSection, refused_at}
pub use Rattle.section_text.specs.Section.{refused_if_code, result_after_header, result_after_line, with_line_feed}
unfoldable pub use Rattle.section_text.specs.Section.{section_body_of, section_of}
pub use Rattle.section_text.specs.Words.{append_digits, ended_parts, is_digit, is_line_feed, is_name, is_name_byte}
pub use Rattle.section_text.specs.Words.{is_number, is_space, words_of, words_of_rest, ◌>>=◌}
unfoldable pub use Rattle.section_text.specs.Words.{bytes_after_last_line_feed, is_word_at, lines_of, name_at, name_of}
unfoldable pub use Rattle.section_text.specs.Words.{names_at, number_at, number_of}
pub use Rattle.section_text.specs.declared.code.RefusalCode.{RefusalCode}
pub use Rattle.section_text.specs.declared.code.RefusalCode.TheVariants.{NoForm, OutOfOrder, TextCut}
pub use Rattle.section_text.specs.declared.fault.ReadFault.{ReadFault}
pub use Rattle.section_text.specs.declared.fault.ReadFault.TheVariants.{Memory}
pub use Rattle.section_text.specs.declared.fault.Refusal.{Refusal}
pub use Rattle.section_text.specs.declared.feed.Line.{Line}
pub use Rattle.section_text.specs.declared.section.Form.{Form}
pub use Rattle.section_text.specs.declared.section.Form.TheVariants.{End, Header, Item}
