-- `prints::next_field` meets its contract: each answer rewrites with the test that led there.
use borrow.Author.Tests.{lt-ltb, le-ltb}
use Rattle.prints.proofs.next_field.Goals as goal

pub returns-then-fields-lt18446744073709551615 : goal.returns-then-fields-lt18446744073709551615
returns-then-fields-lt18446744073709551615 c = rw (lt-ltb _ _ c.if-fields-lt18446744073709551615.true)

pub returns : goal.returns
returns c = rw (le-ltb _ _ c.if-fields-lt18446744073709551615.false)
