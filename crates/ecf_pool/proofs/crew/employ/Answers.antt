use Rattle.ecf_pool.proofs.Crosses.{crosses}
use Rattle.ecf_pool.proofs.crew.employ.Goals as goal

pub for_each_mut-requires-send-T : goal.for_each_mut-requires-send-T
for_each_mut-requires-send-T g c κs within = search crosses depth 20

pub for_each_mut-requires-sync-F : goal.for_each_mut-requires-sync-F
for_each_mut-requires-sync-F g c κs within =
    let r = c.type_bounds.sync-R in
    let j = c.type_bounds.sync-J in
    let k = c.type_bounds.send-J in
    let gate = c.type_bounds.sync-G in
    let quit = c.type_bounds.sync-Q in
    search crosses depth 20
