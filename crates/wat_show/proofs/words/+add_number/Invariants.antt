use Rattle.wat_show.proofs.words.+add_number.Given as goal

-- a number without its last digit is smaller
abbrev pub decreases-add_number : goal.decreases-add_number
decreases-add_number l = l.number
