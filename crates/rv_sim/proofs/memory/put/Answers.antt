use Rattle.std.proofs.Common.{get_or, ap}
use Rattle.rv_sim.proofs.AreaBytes.{byte_loaded-put_area, bare-put, are_apart-put}
use Rattle.rv_sim.proofs.memory.put.Goals as goal

pub returns-clause-put : goal.returns-clause-put
returns-clause-put c =
    let areas = c.args.areas.now in
    let old = get_or areas c.args.place c.index-areas-place.result in
    byte_loaded-put_area areas c.args.place old c.put.new.self c.args.at c.args.bytes.now c.requires.apart c.requires.within (ap (get_or areas c.args.place) c.index-areas-place.is)
    c.put.ensures.stays c.requires.some (c.requires.inside c.index-areas-place.result) c.put.ensures.bytes

pub returns-clause-areas : goal.returns-clause-areas
returns-clause-areas c =
    let areas = c.args.areas.now in
    let old = get_or areas c.args.place c.index-areas-place.result in
    bare-put areas c.args.place old c.put.new.self c.args.at c.args.bytes.now c.requires.apart c.requires.within (ap (get_or areas c.args.place) c.index-areas-place.is)
    c.put.ensures.stays

pub returns-clause-still_apart : goal.returns-clause-still_apart
returns-clause-still_apart c =
    let areas = c.args.areas.now in
    let old = get_or areas c.args.place c.index-areas-place.result in
    are_apart-put areas c.args.place old c.put.new.self c.args.at c.args.bytes.now c.requires.apart c.requires.within (ap (get_or areas c.args.place) c.index-areas-place.is)
    c.put.ensures.stays
