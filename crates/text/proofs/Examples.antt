-- Worked examples of the definitions, with what was expected written by hand: words and numbers.
use mathlib.Core.Path.{◌≡◌, refl}
use Rattle.std.specs.Prelude.{Ok, Err}
use Rattle.text.specs.declared.number.NumberFault.TheVariants.{Bad, TooLarge}
use Rattle.text.specs.Faults.{fault_of, faults_from, faults_of}
use Rattle.text.specs.Shown.{◌⊕◌, ascii, bits_from, bits_of, decimal_of, decimal_up_to, fill_from, hex_of}
use Rattle.text.specs.Typed.{digits_from, number_of, word_from, word_of, words_from, words_of}

-- ---- what is typed

second_word : word_of 1 (ascii "w  DF02 00") ≡ ascii "DF02"
unfolding word_from
second_word = refl

three_words : words_of (ascii " w DF02 00 ") ≡ 3
unfolding words_from
three_words = refl

sixteen : number_of (ascii "+16") ≡ Ok 16
unfolding digits_from number_of
sixteen = refl

with_dollar : number_of (ascii "$10") ≡ Ok 16
unfolding digits_from number_of
with_dollar = refl

no_digit : number_of (ascii "1G") ≡ Err Bad
unfolding digits_from number_of
no_digit = refl

too_many_bits : number_of (ascii "1000000") ≡ Err TooLarge
unfolding digits_from number_of
too_many_bits = refl

second_number_is_bad :
    faults_of (ascii "> 1000 11 1G") 2 255
    ≡ ascii "bad number: 1G (hexadecimal, $ optional; decimal with a leading +)"
unfolding faults_from fault_of words_from word_from number_of digits_from fill_from ◌⊕◌
second_number_is_bad = refl

-- ---- what is shown

an_address : hex_of 4 0xDF0A ≡ ascii "DF0A"
unfolding hex_of
an_address = refl

a_cycle : decimal_of 105 ≡ ascii "+105"
unfolding decimal_up_to
a_cycle = refl

the_first_cycle : decimal_of 0 ≡ ascii "+0"
unfolding decimal_up_to
the_first_cycle = refl

end_of_block_lem : bits_of " irq=7 end=6 err=5 ver=4" 0x50 ≡ ascii " irq=0 end=1 err=0 ver=1"
unfolding bits_from
end_of_block_lem = refl
