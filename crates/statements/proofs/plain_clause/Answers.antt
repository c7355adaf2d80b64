-- By the word.
use Rattle.statements.proofs.Clauses.{plain_if, plain_do, plain_goto, plain_go, plain_include, plain_activate, plain_deactivate, plain_return, plain_none}
use Rattle.statements.proofs.plain_clause.Goals as goal

pub returns-in-If : goal.returns-in-If
returns-in-If c = search plain_if

pub returns-in-Do : goal.returns-in-Do
returns-in-Do c = search plain_do

pub returns-in-Goto : goal.returns-in-Goto
returns-in-Goto c = search plain_goto

pub returns-in-Go : goal.returns-in-Go
returns-in-Go c = search plain_go

pub returns-in-Include : goal.returns-in-Include
returns-in-Include c = search plain_include

pub returns-in-Activate : goal.returns-in-Activate
returns-in-Activate c = search plain_activate

pub returns-in-Deactivate : goal.returns-in-Deactivate
returns-in-Deactivate c = search plain_deactivate

pub returns-in-Return : goal.returns-in-Return
returns-in-Return c = search plain_return

pub returns-in-Declare : goal.returns-in-Declare
returns-in-Declare c = search plain_none
