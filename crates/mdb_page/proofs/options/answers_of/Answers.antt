-- Answers are refused where that of one device is.
use Rattle.mdb_page.proofs.options.answers_of.Goals as goal

pub returns-in_default-clause-refused :
    goal.returns-in_default-clause-refused
returns-in_default-clause-refused c = λ setups are.
    c.in_default.ensures.refused are.by_changer are.changer

pub returns-in_default-answer_of-clause-refused :
    goal.returns-in_default-answer_of-clause-refused
returns-in_default-answer_of-clause-refused c = λ setups are.
    c.in_default-answer_of.ensures.refused are.by_bill are.bill

pub returns-in_default-answer_of-2-clause-refused :
    goal.returns-in_default-answer_of-2-clause-refused
returns-in_default-answer_of-2-clause-refused c = λ setups are.
    c.in_default-answer_of-2.ensures.refused are.by_first are.first

pub returns-in_default-answer_of-3-clause-refused :
    goal.returns-in_default-answer_of-3-clause-refused
returns-in_default-answer_of-3-clause-refused c = λ setups are.
    c.in_default-answer_of-3.ensures.refused are.by_second are.second
