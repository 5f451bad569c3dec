use Rattle.first_index.proofs.index.nested_in_some_order.Goals as goal

pub returns-then-is_some-clause-found : goal.returns-then-is_some-clause-found
returns-then-is_some-clause-found g c = rw c.as_slice.ensures.value at c.in_ok-found.ensures.found

pub returns-then-is_some-clause-kept : goal.returns-then-is_some-clause-kept
returns-then-is_some-clause-kept g c = rw c.as_slice.ensures.value at c.in_ok-found.ensures.kept

pub returns-clause-found : goal.returns-clause-found
returns-clause-found g c = rw c.as_slice-2.ensures.value at c.nested_of-2.ensures.found

pub returns-clause-kept : goal.returns-clause-kept
returns-clause-kept g c = rw c.as_slice-2.ensures.value at c.nested_of-2.ensures.kept
