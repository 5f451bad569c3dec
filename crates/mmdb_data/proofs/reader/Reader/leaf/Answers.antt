use Rattle.std.proofs.Common.{rules, ◌≡◌, refl}
use Rattle.std.proofs.lemmas.Result.{err_from_is_err_and}
use Rattle.mmdb_data.specs.View.{budget}
use Rattle.mmdb_data.proofs.Views.{tree-Text, tree-Bytes, tree-Bool}
use Rattle.mmdb_data.proofs.Parts.{step_fails, leaf_text, leaf_bytes, leaf_bool}
use Rattle.mmdb_data.proofs.reader.Reader.leaf.Goals as goal

pub returns-in_ok-text-in-Some-Text-clause-gives
    : goal.returns-in_ok-text-in-Some-Text-clause-gives
returns-in_ok-text-in-Some-Text-clause-gives c =
    let old = c.args.self.now in
    let head = c.args.head in
    let is : head.kind ≡ 2 = search rules in
    rw (
      leaf_text old.section.now c.args.is_key old.at head.kind head.size head.offset
          (budget old.left) is,
      c.in_ok-text-in-Some-Text.ensures.gives,
      tree-Text c.in_ok-text-in-Some-Text.text,
    ) refl

pub returns-in_err-text-in-Some-Text-clause-gives
    : goal.returns-in_err-text-in-Some-Text-clause-gives
returns-in_err-text-in-Some-Text-clause-gives c =
    let old = c.args.self.now in
    let head = c.args.head in
    let is : head.kind ≡ 2 = search rules in
    let p = err_from_is_err_and c.from_residual.result
    c.from_residual.ensures.1 in
    rw (
      p.1,
      p.2,
      leaf_text old.section.now c.args.is_key old.at head.kind head.size head.offset
          (budget old.left) is,
    ) (step_fails c.in_err-text-in-Some-Text.field-0.0 _ _ c.in_err-text-in-Some-Text.ensures.gives)

pub returns-in_ok-content-in-Some-Bytes-clause-gives
    : goal.returns-in_ok-content-in-Some-Bytes-clause-gives
returns-in_ok-content-in-Some-Bytes-clause-gives c =
    let old = c.args.self.now in
    let head = c.args.head in
    let is : head.kind ≡ 4 = search rules in
    rw (
      leaf_bytes old.section.now c.args.is_key old.at head.kind head.size head.offset
          (budget old.left) is,
      c.in_ok-content-in-Some-Bytes.ensures.gives,
      tree-Bytes c.in_ok-content-in-Some-Bytes.content,
    ) refl

pub returns-in_err-content-in-Some-Bytes-clause-gives
    : goal.returns-in_err-content-in-Some-Bytes-clause-gives
returns-in_err-content-in-Some-Bytes-clause-gives c =
    let old = c.args.self.now in
    let head = c.args.head in
    let is : head.kind ≡ 4 = search rules in
    let p = err_from_is_err_and c.from_residual-in_err-content-in-Some-Bytes.result
    c.from_residual-in_err-content-in-Some-Bytes.ensures.1 in
    rw (
      p.1,
      p.2,
      leaf_bytes old.section.now c.args.is_key old.at head.kind head.size head.offset
          (budget old.left) is,
    ) (step_fails c.in_err-content-in-Some-Bytes.field-0.0 _ _
    c.in_err-content-in-Some-Bytes.ensures.gives)

pub returns-in_ok-b-in-Some-Bool-clause-gives : goal.returns-in_ok-b-in-Some-Bool-clause-gives
returns-in_ok-b-in-Some-Bool-clause-gives c =
    let old = c.args.self.now in
    let head = c.args.head in
    let is : head.kind ≡ 14 = search rules in
    rw (
      leaf_bool old.section.now c.args.is_key old.at head.kind head.size head.offset
          (budget old.left) is,
      c.in_ok-b-in-Some-Bool.ensures,
      tree-Bool c.in_ok-b-in-Some-Bool.b,
    ) refl

pub returns-in_err-b-in-Some-Bool-clause-gives : goal.returns-in_err-b-in-Some-Bool-clause-gives
returns-in_err-b-in-Some-Bool-clause-gives c =
    let old = c.args.self.now in
    let head = c.args.head in
    let is : head.kind ≡ 14 = search rules in
    let p = err_from_is_err_and c.from_residual-in_err-b-in-Some-Bool.result
    c.from_residual-in_err-b-in-Some-Bool.ensures.1 in
    rw (
      p.1,
      p.2,
      leaf_bool old.section.now c.args.is_key old.at head.kind head.size head.offset
          (budget old.left) is,
    ) (step_fails c.in_err-b-in-Some-Bool.field-0.0 _ _ c.in_err-b-in-Some-Bool.ensures)
