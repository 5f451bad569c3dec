use Rattle.mmdb_data.proofs.writing.put_u128.Goals as goal

pub returns : goal.returns
returns c = rw (c.without_zeros.ensures.value, c.write_u128.ensures) at c.put_sized.ensures
