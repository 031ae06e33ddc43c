pub mod PlanMeaning
