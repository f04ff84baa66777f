-- What `search` is handed where a function answers by tests: the logic's own needs, and each test's value from the fact that a branch gave.
use borrow.Author.Rules.{rules}
use borrow.Author.Tests.{lt-ltb, le-ltb, le-leb, lt-leb, eq-eqb, ne_eqb}

pub ruleset answers = (rules, lt-ltb, le-ltb, le-leb, lt-leb, eq-eqb, ne_eqb)
