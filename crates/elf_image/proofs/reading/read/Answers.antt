use Rattle.std.proofs.Common.{◌∙◌}
use Rattle.elf_image.proofs.Conditions.{apart_tells, fails_apart, reach_tells, fails_reach, fails_size, entry_tells, is_unaligned, is_elsewhere, fails_entry, passes, is_loaded, is_image}
use Rattle.elf_image.proofs.reading.read.Goals as goal
use Rattle.elf_image.proofs.reading.read.Goals.{then-not-are_in_reach-via-then-not-are_in_reach, then-not-are_in_reach-via-else-not-are_in_reach+then-bytes-gt-GREATEST_FILE, then-header-ne0-via-then-header-ne0, then-header-ne0-via-else-header-ne0+then-not-is_executable_at}

pub returns-then-not-are_apart-clause-err : goal.returns-then-not-are_apart-clause-err
returns-then-not-are_apart-clause-err c =
    let says = c.in_ok-header.ensures.ok in
    let has = c.in_ok-segments.ensures.ok in
    let apart = apart_tells _ _ c.deref.result.now c.are_apart.result has c.deref.ensures.value c.are_apart.ensures in
    fails_apart c.args.bytes.now c.in_ok-header.header _ says has (apart ∙ c.if-not-are_apart.true)

pub returns-then-not-are_in_reach-clause-err : goal.returns-then-not-are_in_reach-clause-err
returns-then-not-are_in_reach-clause-err c =
    let says = c.in_ok-header.ensures.ok in
    let has = c.in_ok-segments.ensures.ok in
    let apart = apart_tells _ _ c.deref.result.now c.are_apart.result has c.deref.ensures.value c.are_apart.ensures in
    let reach = reach_tells _ _ c.deref-2.result.now c.are_in_reach.result has c.deref-2.ensures.value c.are_in_reach.ensures in
    elim c.then-not-are_in_reach.branch [
      | then-not-are_in_reach-via-then-not-are_in_reach w ↦ fails_reach c.args.bytes.now c.in_ok-header.header _ says has (apart ∙ c.if-not-are_apart.false) (reach ∙ w.if-not-are_in_reach.true)
      | then-not-are_in_reach-via-else-not-are_in_reach+then-bytes-gt-GREATEST_FILE w ↦ fails_size c.args.bytes.now c.in_ok-header.header _ says has (apart ∙ c.if-not-are_apart.false) (reach ∙ w.if-not-are_in_reach.false) w.if-bytes-gt-GREATEST_FILE.true
    ]

pub returns-then-header-ne0-clause-err : goal.returns-then-header-ne0-clause-err
returns-then-header-ne0-clause-err c =
    let says = c.in_ok-header.ensures.ok in
    let has = c.in_ok-segments.ensures.ok in
    let apart = apart_tells _ _ c.deref.result.now c.are_apart.result has c.deref.ensures.value c.are_apart.ensures in
    let reach = reach_tells _ _ c.deref-2.result.now c.are_in_reach.result has c.deref-2.ensures.value c.are_in_reach.ensures in
    fails_entry c.args.bytes.now c.in_ok-header.header _ says has (apart ∙ c.if-not-are_apart.false) (reach ∙ c.if-not-are_in_reach.false) c.if-bytes-gt-GREATEST_FILE.false
    (elim c.then-header-ne0.branch [
      | then-header-ne0-via-then-header-ne0 w ↦ is_unaligned c.args.bytes.now c.in_ok-header.header says w.if-header-ne0.true
      | then-header-ne0-via-else-header-ne0+then-not-is_executable_at w ↦
          let told = entry_tells c.args.bytes.now c.in_ok-header.header _ w.deref-else-header-ne0.result.now w.is_executable_at.result says has w.deref-else-header-ne0.ensures.value w.is_executable_at.ensures in
          is_elsewhere c.args.bytes.now c.in_ok-header.header w.is_executable_at.result told w.if-header-ne0.false w.if-not-is_executable_at.true
    ])

pub parts-requires : goal.parts-requires
parts-requires c = let has = c.in_ok-segments.ensures.ok in rw c.deref-3.ensures.value has.each_inside

pub invariant_of-result : goal.invariant_of-result
invariant_of-result c =
    let says = c.in_ok-header.ensures.ok in
    let has = c.in_ok-segments.ensures.ok in
    let passed = passes c.args.bytes.now c.in_ok-header.header _ says has c.deref.ensures.value c.are_apart.ensures c.if-not-are_apart.false c.deref-2.ensures.value c.are_in_reach.ensures c.if-not-are_in_reach.false c.deref-else-header-ne0.ensures.value c.is_executable_at.ensures c.if-header-ne0.false c.if-not-is_executable_at.false in
    let image = is_image c.args.bytes.now c.in_ok-header.header _ c.deref-3.result.now _ says has passed c.deref-3.ensures.value c.in_ok-parts.ensures in
    record { begins = image.begins; apart = image.apart; in_reach = image.in_reach; filled = image.filled }

pub returns-clause-ok : goal.returns-clause-ok
returns-clause-ok c =
    let says = c.in_ok-header.ensures.ok in
    let has = c.in_ok-segments.ensures.ok in
    let passed = passes c.args.bytes.now c.in_ok-header.header _ says has c.deref.ensures.value c.are_apart.ensures c.if-not-are_apart.false c.deref-2.ensures.value c.are_in_reach.ensures c.if-not-are_in_reach.false c.deref-else-header-ne0.ensures.value c.is_executable_at.ensures c.if-header-ne0.false c.if-not-is_executable_at.false in
    is_loaded c.args.bytes.now c.in_ok-header.header _ c.deref-3.result.now _ says has passed c.if-bytes-gt-GREATEST_FILE.false c.deref-3.ensures.value c.in_ok-parts.ensures
