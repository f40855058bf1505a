-- One name under which the definitions unfold, for the facts that are found by computing. Proofs about the definitions do not use it.
use Rattle.laws.specs.Bits.{bits_of}
use Rattle.search_theory.specs.Search.{highest, first, extend, add, add_all, set_of, beam, extensions, level, upto, run, closed, best}
use Rattle.meaning.specs.Numerals.{split, is_ended, lines_of, is_positive, is_natural, is_number, value_of}
use Rattle.meaning.specs.Book.{kind_of_byte, kind_of_letter, is_text_line, is_book_text, text_lines, size_of, is_whole, cut_lines, loaded_lines, is_one_bFirst, is_in_range, is_not_too_long, is_counted, order_of, is_no_triple_twice, is_no_shorter_twice, lines_refusal, book_refusal, loaded_book, loaded_of, read_refusal, entry_of, is_gram, gram_of, book_of_lines, book_of, target_part_from, target_part, part_of}
use Rattle.meaning.specs.Direction.{is_direction_text, direction_numbers, numbers_refusal, direction_refusal, read_direction_refusal, direction_of, word_count}
use Rattle.meaning.specs.Derivation.{word_score, pair_score, backed_off, triple_score, words_score, supplier, suppliers, is_entry, entry_at, words_from_to, fits, covers, jump, jumps, times_covered, is_valid, target_words, score_of, supplied_of}
use Rattle.meaning.specs.State.{start, words_covered, is_equal, is_free, cover, may_extend, last_two, next_key, gain, is_better, key_of}
use Rattle.meaning.specs.Search.{fitting_steps, is_within, entered, last_set, answer}
use Rattle.meaning.specs.Reply.{read_book, read_book_list, read_direction, read_direction_list, check_book, steps_refusal, proposal_refusal, score_proposal, before_search, after_search, decode_refusal, decode, decoded_steps, decoded_words, decoded_store}
use Rattle.meaning.specs.Revision.{in_use_refusal, added, add_refusal, add_entry, add_entry_list, without_entry, removed, remove_refusal, remove_entry, remove_entry_list}
use Rattle.meaning.specs.Render.{decimal, printed_line, printed_answer, input_refusal, render_decode, rendered}

unfoldable pub computing : Unit {0}
unfolding
    bits_of
    highest first extend add add_all set_of beam extensions level upto run closed best
    split is_ended lines_of is_positive is_natural is_number value_of
    kind_of_byte kind_of_letter is_text_line is_book_text text_lines size_of is_whole cut_lines loaded_lines is_one_bFirst is_in_range is_not_too_long is_counted order_of is_no_triple_twice is_no_shorter_twice lines_refusal book_refusal loaded_book loaded_of read_refusal entry_of is_gram gram_of book_of_lines book_of target_part_from target_part part_of
    is_direction_text direction_numbers numbers_refusal direction_refusal read_direction_refusal direction_of word_count
    word_score pair_score backed_off triple_score words_score supplier suppliers is_entry entry_at words_from_to fits covers jump jumps times_covered is_valid target_words score_of supplied_of
    start words_covered is_equal is_free cover may_extend last_two next_key gain is_better key_of
    fitting_steps is_within entered last_set answer
    read_book read_book_list read_direction read_direction_list check_book steps_refusal proposal_refusal score_proposal before_search after_search decode_refusal decode decoded_steps decoded_words decoded_store
    in_use_refusal added add_refusal add_entry add_entry_list without_entry removed remove_refusal remove_entry remove_entry_list
    decimal printed_line printed_answer input_refusal render_decode rendered
computing = tt
