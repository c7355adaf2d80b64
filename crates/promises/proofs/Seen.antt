-- The passes of one small program, whether two others include a member, and whether two more scan a value with a small letter, by
-- computing: the promises speak of something.
-- Assumes nothing.
use Prim.Native.Nat.{ℕ, ◌+◌}
use Prim.Native.String.{String}
use native.Mathlib.Omega.{arith}
use mathlib.Core.Path.{◌≡◌, refl}
use mathlib.Core.Bool.{true, false}
use mathlib.Core.List.{List, [], ◌∷◌, ◌++◌, reverse, map}
use lib.ListN.{length}
use Rattle.definition.specs.declared.Layout.TheVariants.{Plain as plain}
use Rattle.definition.specs.Text.{bytes_of}
use Rattle.definition.specs.Lists.{bytes}
use Rattle.definition.specs.Limits.{program_text, program_list, program_steps}
use Rattle.definition.specs.Bytes.{is_small as Bytes-is_small, capital as Bytes-capital, folded as Bytes-folded, is_letter as Bytes-is_letter, is_digit as Bytes-is_digit, is_alphameric as Bytes-is_alphameric, is_blank as Bytes-is_blank, is_mark as Bytes-is_mark, class_of as Bytes-class_of}
use Rattle.definition.specs.Calls.{is_running as Calls-is_running, body_machine as Calls-body_machine, body_run as Calls-body_run, calls as Calls-calls}
use Rattle.definition.specs.Deck.{has_libraries as Deck-has_libraries, count as Deck-count, library_length as Deck-library_length, line_place as Deck-line_place, is_repeated as Deck-is_repeated, is_padded as Deck-is_padded, line_at as Deck-line_at, lines_from as Deck-lines_from, is_member_name as Deck-is_member_name, are_named as Deck-are_named, is_called as Deck-is_called, find as Deck-find, are_distinct as Deck-are_distinct, follow as Deck-follow, is_sound as Deck-is_sound, contents as Deck-contents, body_byte as Deck-body_byte}
use Rattle.definition.specs.Evaluate.{is_substr as Evaluate-is_substr, meant as Evaluate-meant, parameters as Evaluate-parameters, callee as Evaluate-callee, count as Evaluate-count, put as Evaluate-put, plain_name as Evaluate-plain_name, listed_name as Evaluate-listed_name, evaluate as Evaluate-evaluate, arguments as Evaluate-arguments}
use Rattle.definition.specs.Events.{text_of as Events-text_of, goes_on as Events-goes_on, lines_of as Events-lines_of, list_bytes as Events-list_bytes}
use Rattle.definition.specs.Expansion.{expansion, text_room_after as Expansion-text_room_after, list_room_after as Expansion-list_room_after}
use Rattle.definition.specs.Expressions.{comparison as Expressions-comparison, infix_of as Expressions-infix_of, prefix_of as Expressions-prefix_of, expect_sign as Expressions-expect_sign, expect_word as Expressions-expect_word, name_at as Expressions-name_at, arguments as Expressions-arguments, reference_at as Expressions-reference_at, primitive as Expressions-primitive, operand as Expressions-operand, chain as Expressions-chain, levels as Expressions-levels, expression as Expressions-expression}
use Rattle.definition.specs.Fixed.{in_range as Fixed-in_range, ranged as Fixed-ranged, sum as Fixed-sum, difference as Fixed-difference, product as Fixed-product, negative as Fixed-negative, quotient as Fixed-quotient}
use Rattle.definition.specs.Flow.{is_once as Flow-is_once, behind_on as Flow-behind_on, lead_out as Flow-lead_out, into as Flow-into, assigned as Flow-assigned, truth as Flow-truth, number as Flow-number, bounds as Flow-bounds, stepped as Flow-stepped, statement as Flow-statement, turn as Flow-turn, run_on as Flow-run_on, groups_from as Flow-groups_from, is_in as Flow-is_in, are_in as Flow-are_in, may_go as Flow-may_go}
use Rattle.definition.specs.Names.{is_listed as Names-is_listed, declare_all as Names-declare_all, names_past as Names-names_past, sentences_past as Names-sentences_past, fault_of as Names-fault_of, enter as Names-enter}
use Rattle.definition.specs.Program.{is_iterated as Program-is_iterated}
use Rattle.definition.specs.Reading.{depth as Reading-depth, change as Reading-change, add_row as Reading-add_row, is_decided as Reading-is_decided, else_word as Reading-else_word, else_at as Reading-else_at, complete as Reading-complete, labels_from as Reading-labels_from, taken as Reading-taken, do_at as Reading-do_at, common as Reading-common, in_list as Reading-in_list, by_word as Reading-by_word, end_name as Reading-end_name, is_full as Reading-is_full, is_end as Reading-is_end, clause_from as Reading-clause_from, inner_at as Reading-inner_at, deep_enough as Reading-deep_enough, turn as Reading-turn, read_on as Reading-read_on, read_member as Reading-read_member}
use Rattle.definition.specs.Run.{body_of as Run-body_of, put_out as Run-put_out, copy_here as Run-copy_here, replace_here as Run-replace_here, text_on as Run-text_on, text_out as Run-text_out, activate_all as Run-activate_all, activations as Run-activations, jump_away as Run-jump_away, jump_label as Run-jump_label, include_all as Run-include_all, member_machine as Run-member_machine, run_source as Run-run_source, run_member as Run-run_member}
use Rattle.definition.specs.Scan.{active_name as Scan-active_name, cut_on as Scan-cut_on, list_at as Scan-list_at, scan_arguments as Scan-scan_arguments, call_with as Scan-call_with, replace_entry as Scan-replace_entry, scan_on as Scan-scan_on, replacer as Scan-replacer}
use Rattle.definition.specs.Statements.{ended as Statements-ended, assignment as Statements-assignment, then_word as Statements-then_word, if_clause as Statements-if_clause, bound_at as Statements-bound_at, do_bounds as Statements-do_bounds, do_clause as Statements-do_clause, goto_clause as Statements-goto_clause, list_of as Statements-list_of, include_clause as Statements-include_clause, deactivate_clause as Statements-deactivate_clause, activate_clause as Statements-activate_clause, return_clause as Statements-return_clause, names_at as Statements-names_at, attribute as Statements-attribute, declare_names as Statements-declare_names, declare_next as Statements-declare_next, declare_from as Statements-declare_from, returns_type as Statements-returns_type, procedure_head as Statements-procedure_head, procedure_clause as Statements-procedure_clause}
use Rattle.definition.specs.Cards.{takes as Cards-takes}
use Rattle.definition.specs.Steps.{is_left as Steps-is_left, used_after as Steps-used_after}
use Rattle.definition.specs.Tokens.{comment_end as Tokens-comment_end, quote_end as Tokens-quote_end, is_comment as Tokens-is_comment, is_space as Tokens-is_space, spaces as Tokens-spaces, quoted_at as Tokens-quoted_at, is_bit as Tokens-is_bit, constant_at as Tokens-constant_at, is_pair as Tokens-is_pair, sign_at as Tokens-sign_at, run_at as Tokens-run_at, lexeme_of as Tokens-lexeme_of, is_touching as Tokens-is_touching, lexeme_at as Tokens-lexeme_at, token_at as Tokens-token_at, piece_of as Tokens-piece_of, piece_at as Tokens-piece_at, text_end as Tokens-text_end}
use Rattle.definition.specs.Values.{decimal_on as Values-decimal_on, fixed_text as Values-fixed_text, written as Values-written, constant as Values-constant, number_in as Values-number_in, to_fixed as Values-to_fixed, to_characters as Values-to_characters, binary as Values-binary, to_bits as Values-to_bits, convert as Values-convert, any_one as Values-any_one, holds as Values-holds, limited as Values-limited, unfinished as Values-unfinished, bitwise as Values-bitwise, inverted as Values-inverted, order_of as Values-order_of, bytes_order as Values-bytes_order, numbers_order as Values-numbers_order, compared as Values-compared, comparing as Values-comparing, arithmetic as Values-arithmetic, logical as Values-logical, joined as Values-joined, infixed as Values-infixed, prefixed as Values-prefixed, cut_out as Values-cut_out, substr as Values-substr}
use Rattle.definition.specs.World.{charge as World-charge, address_in as World-address_in, seen_from as World-seen_from, rows_in as World-rows_in}
use Rattle.definition.specs.World.{Pass, began, passed, Activity, inactive, rescanned, copied_only}
use Rattle.promises.specs.Unread.{include_all_but, machine_but, run_source_but, run_but, NeverIncluded}
use Rattle.promises.specs.LowerCase.{is_bare_from as LowerCase-is_bare_from, replacer_but as LowerCase-replacer_but, replace_here_but as LowerCase-replace_here_but, text_on_but as LowerCase-text_on_but, text_out_but as LowerCase-text_out_but, machine_but as LowerCase-machine_but, run_source_but as LowerCase-run_source_but, run_but as LowerCase-run_but, is_bare, BareValues}
use Rattle.promises.specs.Passes.{passing, activity_of, Asks}

-- a pass in numbers: 0 and the place of a blank; else 1 or 2 for what was not active or was, the place, where the scan went
-- on, the arguments asked for and the bytes that went out
abbrev kind_of : Activity → ℕ
kind_of inactive = 1
kind_of rescanned = 2
kind_of copied_only = 2

abbrev shown : Pass → List ℕ
shown (began m x) = 0 ∷ x.from ∷ []
shown (passed s) = kind_of (activity_of s.piece s.identifiers s.activities) ∷ s.place ∷ s.to ∷ Asks s ∷ s.outcome

abbrev main : String
main = "%DCL A CHAR,F ENTRY;%A='';%F:PROC(X)RETURNS(CHAR);DCL X CHAR;RETURN('Z');%END;B A'A'F (A)"

abbrev deck : List ℕ
deck = bytes 2 1 ++ bytes_of "MAIN    " ++ bytes 4 18 ++ bytes 4 (length (bytes_of main)) ++ bytes_of main

-- three blanks; then the text `B A'A'F (A)`: a name that is none, a blank, an active name with an empty value, a string, an
-- active entry with its list of one argument
pub seen : map shown (reverse (passing true deck program_text program_list program_steps)) ≡ (
    (0 ∷ 20 ∷ []) ∷
    (0 ∷ 26 ∷ []) ∷
    (0 ∷ 78 ∷ []) ∷
    (1 ∷ 78 ∷ 79 ∷ 0 ∷ 66 ∷ []) ∷
    (1 ∷ 79 ∷ 80 ∷ 0 ∷ 32 ∷ []) ∷
    (2 ∷ 80 ∷ 81 ∷ 0 ∷ []) ∷
    (1 ∷ 81 ∷ 84 ∷ 0 ∷ 39 ∷ 65 ∷ 39 ∷ []) ∷
    (2 ∷ 84 ∷ 89 ∷ 1 ∷ 90 ∷ []) ∷ [])
unfolding Bytes-is_small Bytes-capital Bytes-folded Bytes-is_letter Bytes-is_digit Bytes-is_alphameric Bytes-is_blank Bytes-is_mark Bytes-class_of Cards-takes Calls-is_running Calls-body_machine Calls-body_run Calls-calls Deck-has_libraries Deck-count Deck-library_length Deck-line_place Deck-is_repeated Deck-is_padded Deck-line_at Deck-lines_from Deck-is_member_name Deck-are_named Deck-is_called Deck-find Deck-are_distinct Deck-follow Deck-is_sound Deck-contents Deck-body_byte Evaluate-is_substr Evaluate-meant Evaluate-parameters Evaluate-callee Evaluate-count Evaluate-put Evaluate-plain_name Evaluate-listed_name Evaluate-evaluate Evaluate-arguments Events-text_of Events-goes_on Events-lines_of Events-list_bytes expansion Expansion-text_room_after Expansion-list_room_after Expressions-comparison Expressions-infix_of Expressions-prefix_of Expressions-expect_sign Expressions-expect_word Expressions-name_at Expressions-arguments Expressions-reference_at Expressions-primitive Expressions-operand Expressions-chain Expressions-levels Expressions-expression Fixed-in_range Fixed-ranged Fixed-sum Fixed-difference Fixed-product Fixed-negative Fixed-quotient Flow-is_once Flow-behind_on Flow-lead_out Flow-into Flow-assigned Flow-truth Flow-number Flow-bounds Flow-stepped Flow-statement Flow-turn Flow-run_on Program-is_iterated Flow-groups_from Flow-is_in Flow-are_in Flow-may_go Names-is_listed Names-declare_all Names-names_past Names-sentences_past Names-fault_of Names-enter Reading-depth Reading-change Reading-add_row Reading-is_decided Reading-else_word Reading-else_at Reading-complete Reading-labels_from Reading-taken Reading-do_at Reading-common Reading-in_list Reading-by_word Reading-end_name Reading-is_full Reading-is_end Reading-clause_from Reading-inner_at Reading-deep_enough Reading-turn Reading-read_on Reading-read_member Run-body_of Run-put_out Run-copy_here Run-replace_here Run-text_on Run-text_out Run-activate_all Run-activations Run-jump_away Run-jump_label Run-include_all Run-member_machine Run-run_source Run-run_member Scan-active_name Scan-cut_on Scan-list_at Scan-scan_arguments Scan-call_with Scan-replace_entry Scan-scan_on Scan-replacer Statements-ended Statements-assignment Statements-then_word Statements-if_clause Statements-bound_at Statements-do_bounds Statements-do_clause Statements-goto_clause Statements-list_of Statements-include_clause Statements-deactivate_clause Statements-activate_clause Statements-return_clause Statements-names_at Statements-attribute Statements-declare_names Statements-declare_next Statements-declare_from Statements-returns_type Statements-procedure_head Statements-procedure_clause Steps-is_left Steps-used_after Tokens-comment_end Tokens-quote_end Tokens-is_comment Tokens-is_space Tokens-spaces Tokens-quoted_at Tokens-is_bit Tokens-constant_at Tokens-is_pair Tokens-sign_at Tokens-run_at Tokens-lexeme_of Tokens-is_touching Tokens-lexeme_at Tokens-token_at Tokens-piece_of Tokens-piece_at Tokens-text_end Values-decimal_on Values-fixed_text Values-written Values-constant Values-number_in Values-to_fixed Values-to_characters Values-binary Values-to_bits Values-convert Values-any_one Values-holds Values-limited Values-unfinished Values-bitwise Values-inverted Values-order_of Values-bytes_order Values-numbers_order Values-compared Values-comparing Values-arithmetic Values-logical Values-joined Values-infixed Values-prefixed Values-cut_out Values-substr World-charge World-address_in World-seen_from World-rows_in passing
seen = refl

-- a deck of two members, MAIN and M: one run includes line 1, M, and ends at the bar; the other never does
abbrev deck_of : String → String → List ℕ
deck_of x y =
    bytes 2 2 ++ bytes_of "MAIN    " ++ bytes 4 34 ++ bytes 4 (length (bytes_of x))
    ++ bytes_of "M       " ++ bytes 4 (34 + length (bytes_of x)) ++ bytes 4 (length (bytes_of y)) ++ bytes_of x ++ bytes_of y

pub included : NeverIncluded 1 (deck_of "%INCLUDE M;" "X") program_text program_list program_steps → ⊥
unfolding Bytes-is_small Bytes-capital Bytes-folded Bytes-is_letter Bytes-is_digit Bytes-is_alphameric Bytes-is_blank Bytes-is_mark Bytes-class_of Cards-takes Calls-is_running Calls-body_machine Calls-body_run Calls-calls Deck-has_libraries Deck-count Deck-library_length Deck-line_place Deck-is_repeated Deck-is_padded Deck-line_at Deck-lines_from Deck-is_member_name Deck-are_named Deck-is_called Deck-find Deck-are_distinct Deck-follow Deck-is_sound Deck-contents Deck-body_byte Evaluate-is_substr Evaluate-meant Evaluate-parameters Evaluate-callee Evaluate-count Evaluate-put Evaluate-plain_name Evaluate-listed_name Evaluate-evaluate Evaluate-arguments Events-text_of Events-goes_on Events-lines_of Events-list_bytes expansion Expansion-text_room_after Expansion-list_room_after Expressions-comparison Expressions-infix_of Expressions-prefix_of Expressions-expect_sign Expressions-expect_word Expressions-name_at Expressions-arguments Expressions-reference_at Expressions-primitive Expressions-operand Expressions-chain Expressions-levels Expressions-expression Fixed-in_range Fixed-ranged Fixed-sum Fixed-difference Fixed-product Fixed-negative Fixed-quotient Flow-is_once Flow-behind_on Flow-lead_out Flow-into Flow-assigned Flow-truth Flow-number Flow-bounds Flow-stepped Flow-statement Flow-turn Flow-run_on Program-is_iterated Flow-groups_from Flow-is_in Flow-are_in Flow-may_go Names-is_listed Names-declare_all Names-names_past Names-sentences_past Names-fault_of Names-enter Reading-depth Reading-change Reading-add_row Reading-is_decided Reading-else_word Reading-else_at Reading-complete Reading-labels_from Reading-taken Reading-do_at Reading-common Reading-in_list Reading-by_word Reading-end_name Reading-is_full Reading-is_end Reading-clause_from Reading-inner_at Reading-deep_enough Reading-turn Reading-read_on Reading-read_member Run-body_of Run-put_out Run-copy_here Run-replace_here Run-text_on Run-text_out Run-activate_all Run-activations Run-jump_away Run-jump_label Run-include_all Run-member_machine Run-run_source Run-run_member Scan-active_name Scan-cut_on Scan-list_at Scan-scan_arguments Scan-call_with Scan-replace_entry Scan-scan_on Scan-replacer Statements-ended Statements-assignment Statements-then_word Statements-if_clause Statements-bound_at Statements-do_bounds Statements-do_clause Statements-goto_clause Statements-list_of Statements-include_clause Statements-deactivate_clause Statements-activate_clause Statements-return_clause Statements-names_at Statements-attribute Statements-declare_names Statements-declare_next Statements-declare_from Statements-returns_type Statements-procedure_head Statements-procedure_clause Steps-is_left Steps-used_after Tokens-comment_end Tokens-quote_end Tokens-is_comment Tokens-is_space Tokens-spaces Tokens-quoted_at Tokens-is_bit Tokens-constant_at Tokens-is_pair Tokens-sign_at Tokens-run_at Tokens-lexeme_of Tokens-is_touching Tokens-lexeme_at Tokens-token_at Tokens-piece_of Tokens-piece_at Tokens-text_end Values-decimal_on Values-fixed_text Values-written Values-constant Values-number_in Values-to_fixed Values-to_characters Values-binary Values-to_bits Values-convert Values-any_one Values-holds Values-limited Values-unfinished Values-bitwise Values-inverted Values-order_of Values-bytes_order Values-numbers_order Values-compared Values-comparing Values-arithmetic Values-logical Values-joined Values-infixed Values-prefixed Values-cut_out Values-substr World-charge World-address_in World-seen_from World-rows_in include_all_but machine_but run_source_but run_but
included h = h tt

pub not_included : NeverIncluded 1 (deck_of "%IF 0 %THEN %INCLUDE M;M" "X") program_text program_list program_steps
unfolding Bytes-is_small Bytes-capital Bytes-folded Bytes-is_letter Bytes-is_digit Bytes-is_alphameric Bytes-is_blank Bytes-is_mark Bytes-class_of Cards-takes Calls-is_running Calls-body_machine Calls-body_run Calls-calls Deck-has_libraries Deck-count Deck-library_length Deck-line_place Deck-is_repeated Deck-is_padded Deck-line_at Deck-lines_from Deck-is_member_name Deck-are_named Deck-is_called Deck-find Deck-are_distinct Deck-follow Deck-is_sound Deck-contents Deck-body_byte Evaluate-is_substr Evaluate-meant Evaluate-parameters Evaluate-callee Evaluate-count Evaluate-put Evaluate-plain_name Evaluate-listed_name Evaluate-evaluate Evaluate-arguments Events-text_of Events-goes_on Events-lines_of Events-list_bytes expansion Expansion-text_room_after Expansion-list_room_after Expressions-comparison Expressions-infix_of Expressions-prefix_of Expressions-expect_sign Expressions-expect_word Expressions-name_at Expressions-arguments Expressions-reference_at Expressions-primitive Expressions-operand Expressions-chain Expressions-levels Expressions-expression Fixed-in_range Fixed-ranged Fixed-sum Fixed-difference Fixed-product Fixed-negative Fixed-quotient Flow-is_once Flow-behind_on Flow-lead_out Flow-into Flow-assigned Flow-truth Flow-number Flow-bounds Flow-stepped Flow-statement Flow-turn Flow-run_on Program-is_iterated Flow-groups_from Flow-is_in Flow-are_in Flow-may_go Names-is_listed Names-declare_all Names-names_past Names-sentences_past Names-fault_of Names-enter Reading-depth Reading-change Reading-add_row Reading-is_decided Reading-else_word Reading-else_at Reading-complete Reading-labels_from Reading-taken Reading-do_at Reading-common Reading-in_list Reading-by_word Reading-end_name Reading-is_full Reading-is_end Reading-clause_from Reading-inner_at Reading-deep_enough Reading-turn Reading-read_on Reading-read_member Run-body_of Run-put_out Run-copy_here Run-replace_here Run-text_on Run-text_out Run-activate_all Run-activations Run-jump_away Run-jump_label Run-include_all Run-member_machine Run-run_source Run-run_member Scan-active_name Scan-cut_on Scan-list_at Scan-scan_arguments Scan-call_with Scan-replace_entry Scan-scan_on Scan-replacer Statements-ended Statements-assignment Statements-then_word Statements-if_clause Statements-bound_at Statements-do_bounds Statements-do_clause Statements-goto_clause Statements-list_of Statements-include_clause Statements-deactivate_clause Statements-activate_clause Statements-return_clause Statements-names_at Statements-attribute Statements-declare_names Statements-declare_next Statements-declare_from Statements-returns_type Statements-procedure_head Statements-procedure_clause Steps-is_left Steps-used_after Tokens-comment_end Tokens-quote_end Tokens-is_comment Tokens-is_space Tokens-spaces Tokens-quoted_at Tokens-is_bit Tokens-constant_at Tokens-is_pair Tokens-sign_at Tokens-run_at Tokens-lexeme_of Tokens-is_touching Tokens-lexeme_at Tokens-token_at Tokens-piece_of Tokens-piece_at Tokens-text_end Values-decimal_on Values-fixed_text Values-written Values-constant Values-number_in Values-to_fixed Values-to_characters Values-binary Values-to_bits Values-convert Values-any_one Values-holds Values-limited Values-unfinished Values-bitwise Values-inverted Values-order_of Values-bytes_order Values-numbers_order Values-compared Values-comparing Values-arithmetic Values-logical Values-joined Values-infixed Values-prefixed Values-cut_out Values-substr World-charge World-address_in World-seen_from World-rows_in include_all_but machine_but run_source_but run_but
not_included h = h

-- strings and comments, one that stays open too; behind them and behind a `/` alone a small letter stands outside
pub outside : (is_bare (bytes_of "A 'b''c'/*/d*/ //*e**/ 'f") ≡ true) × (is_bare (bytes_of "/**/a") ≡ false) × (is_bare (bytes_of "''a") ≡ false) × (is_bare (bytes_of "/a") ≡ false)
unfolding LowerCase-is_bare_from Bytes-is_small
outside = (refl, refl, refl, refl)

-- a value with a small letter comes to the bar, though the sources have none outside strings; small letters that stand in strings
-- and comments of the text and of the value do not
pub scanned : (BareValues plain (deck_of "%DCL A CHAR;%A='a';A" "X") program_text program_list program_steps → ⊥) × BareValues plain (deck_of "%DCL A CHAR;%A='B''a''/*a*/';A/*a*/'a'" "X") program_text program_list program_steps
unfolding Bytes-is_small Bytes-capital Bytes-folded Bytes-is_letter Bytes-is_digit Bytes-is_alphameric Bytes-is_blank Bytes-is_mark Bytes-class_of Cards-takes Calls-is_running Calls-body_machine Calls-body_run Calls-calls Deck-has_libraries Deck-count Deck-library_length Deck-line_place Deck-is_repeated Deck-is_padded Deck-line_at Deck-lines_from Deck-is_member_name Deck-are_named Deck-is_called Deck-find Deck-are_distinct Deck-follow Deck-is_sound Deck-contents Deck-body_byte Evaluate-is_substr Evaluate-meant Evaluate-parameters Evaluate-callee Evaluate-count Evaluate-put Evaluate-plain_name Evaluate-listed_name Evaluate-evaluate Evaluate-arguments Events-text_of Events-goes_on Events-lines_of Events-list_bytes expansion Expansion-text_room_after Expansion-list_room_after Expressions-comparison Expressions-infix_of Expressions-prefix_of Expressions-expect_sign Expressions-expect_word Expressions-name_at Expressions-arguments Expressions-reference_at Expressions-primitive Expressions-operand Expressions-chain Expressions-levels Expressions-expression Fixed-in_range Fixed-ranged Fixed-sum Fixed-difference Fixed-product Fixed-negative Fixed-quotient Flow-is_once Flow-behind_on Flow-lead_out Flow-into Flow-assigned Flow-truth Flow-number Flow-bounds Flow-stepped Flow-statement Flow-turn Flow-run_on Program-is_iterated Flow-groups_from Flow-is_in Flow-are_in Flow-may_go Names-is_listed Names-declare_all Names-names_past Names-sentences_past Names-fault_of Names-enter Reading-depth Reading-change Reading-add_row Reading-is_decided Reading-else_word Reading-else_at Reading-complete Reading-labels_from Reading-taken Reading-do_at Reading-common Reading-in_list Reading-by_word Reading-end_name Reading-is_full Reading-is_end Reading-clause_from Reading-inner_at Reading-deep_enough Reading-turn Reading-read_on Reading-read_member Run-body_of Run-put_out Run-copy_here Run-replace_here Run-text_on Run-text_out Run-activate_all Run-activations Run-jump_away Run-jump_label Run-include_all Run-member_machine Run-run_source Run-run_member Scan-active_name Scan-cut_on Scan-list_at Scan-scan_arguments Scan-call_with Scan-replace_entry Scan-scan_on Scan-replacer Statements-ended Statements-assignment Statements-then_word Statements-if_clause Statements-bound_at Statements-do_bounds Statements-do_clause Statements-goto_clause Statements-list_of Statements-include_clause Statements-deactivate_clause Statements-activate_clause Statements-return_clause Statements-names_at Statements-attribute Statements-declare_names Statements-declare_next Statements-declare_from Statements-returns_type Statements-procedure_head Statements-procedure_clause Steps-is_left Steps-used_after Tokens-comment_end Tokens-quote_end Tokens-is_comment Tokens-is_space Tokens-spaces Tokens-quoted_at Tokens-is_bit Tokens-constant_at Tokens-is_pair Tokens-sign_at Tokens-run_at Tokens-lexeme_of Tokens-is_touching Tokens-lexeme_at Tokens-token_at Tokens-piece_of Tokens-piece_at Tokens-text_end Values-decimal_on Values-fixed_text Values-written Values-constant Values-number_in Values-to_fixed Values-to_characters Values-binary Values-to_bits Values-convert Values-any_one Values-holds Values-limited Values-unfinished Values-bitwise Values-inverted Values-order_of Values-bytes_order Values-numbers_order Values-compared Values-comparing Values-arithmetic Values-logical Values-joined Values-infixed Values-prefixed Values-cut_out Values-substr World-charge World-address_in World-seen_from World-rows_in LowerCase-is_bare_from LowerCase-replacer_but LowerCase-replace_here_but LowerCase-text_on_but LowerCase-text_out_but LowerCase-machine_but LowerCase-run_source_but LowerCase-run_but
scanned = (λ h. h refl, λ h. omega (arith, h))
